-- The cases of the logical word. Assumes nothing.
use mathlib.Core.Path.{◌≡◌, refl, sym, ap, ◌∙◌}
use mathlib.Core.Bool.{Bool, true, false, cond, not, ◌||◌}
use mathlib.Core.Logic.{◌⊎◌, inl, inr, ⊎_elim}
use mathlib.Core.List.{[], ◌∷◌}
use Prim.Native.Nat.{ℕ, ◌+◌, ◌*◌, ◌/◌, ◌≤◌, ◌<◌}
use native.Mathlib.Omega.{arith}
use borrow.Author.Tests.{lt-ltb, le-ltb, ne_eqb, ltb-false}
use lib.Dec.{eqb, ltb, eqb→eq}
use lib.ListN.{get_or}
use Rattle.arm.specs.BitMasks.{IsWidth}
use Rattle.arm.proofs.Lengths.{at_widths}
use Rattle.arm.proofs.Logical.{spelled}
use Rattle.words.specs.Said.{Said, ok, no}
use Rattle.words.specs.Listed.{listed, packed}
use Rattle.words.specs.declared.Words.{Words}
use Rattle.words.proofs.Answers.{Alone, alone_short, listed_packed, not_both}
use Rattle.words.proofs.Table.{at}
use Rattle.logical.specs.declared.LogicalImm.{LogicalImm}
use Rattle.logical.specs.Width.{bits_of}
use Rattle.logical.specs.declared.Width.{Width}
use Rattle.logical.proofs.Laws.{width_is}
use Rattle.logical_words.specs.Operation.{operation_number}
use Rattle.logical_words.specs.declared.Operation.{Operation}
use Rattle.logical_words.specs.declared.Operation.TheVariants.{And, Orr, Eor, Ands}
use Rattle.logical_words.specs.Word.{bases, base_of, placed_of, filled, word_of}

-- ---- what was converted

pub known : {n : ℕ} (o : Operation) → operation_number o ≡ n → n ≤ 3
known And q = omega (arith, q)
known Orr q = omega (arith, q)
known Eor q = omega (arith, q)
known Ands q = omega (arith, q)

pub at_width : {n : ℕ} (w : Width) → bits_of w ≡ n → IsWidth n
at_width w q = rw q at (width_is w)

-- ---- the base: operations rise by 20000000 (hex)

abbrev rises : ℕ → ℕ → Bool
rises k x = eqb x (0x12000000 + k * 0x20000000)

pub base_is : (operation w : ℕ) → operation ≤ 3 → IsWidth w → 0x12000000 + operation * 0x20000000 + w / 64 * 0x80000000 ≡ base_of operation w
base_is operation w h ww =
    let row = eqb→eq (get_or bases operation 0) _ (at {A = ℕ} rises 0 bases tt operation (omega arith)) in
    let wide : w / 64 * 0x80000000 ≡ cond (eqb w 64) 0x80000000 0 = at_widths (λ (k : ℕ). k / 64 * 0x80000000 ≡ cond (eqb k 64) 0x80000000 0) refl refl w ww in
    rw (row, wide)

-- ---- the word

module _ (operation w rn rd : ℕ) (a : Said LogicalImm) where
  pub word_operation : 3 < operation → word_of operation w rn rd a ≡ no 7
  unfolding word_of
  word_operation h = simp (lt-ltb 3 operation h)

  pub word_width : operation ≤ 3 → (IsWidth w → ⊥) → word_of operation w rn rd a ≡ no 1
  unfolding word_of
  word_width h none = simp (le-ltb 3 operation h, ne_eqb w 32 (λ e. none (inl e)), ne_eqb w 64 (λ e. none (inr e)))

  width_known : IsWidth w → eqb w 32 || eqb w 64 ≡ true
  width_known ww = at_widths (λ (k : ℕ). (eqb k 32 || eqb k 64) ≡ true) refl refl w ww

  pub word_register : operation ≤ 3 → IsWidth w → (31 < rn) ⊎ (31 < rd) → word_of operation w rn rd a ≡ no 2
  unfolding word_of
  word_register h ww high =
      let past : ltb 31 rn || ltb 31 rd ≡ true = ⊎_elim (λ (k : 31 < rn). simp (lt-ltb 31 rn k)) (λ (k : 31 < rd). either (ltb 31 rn) (lt-ltb 31 rd k)) high in
      simp (le-ltb 3 operation h, width_known ww, past)
    where
      either : (b : Bool) {c : Bool} → c ≡ true → b || c ≡ true
      either true q = refl
      either false q = q

  pub word_filled : operation ≤ 3 → IsWidth w → rn ≤ 31 → rd ≤ 31 → word_of operation w rn rd a ≡ filled (base_of operation w) rn rd a
  unfolding word_of
  word_filled h ww n d = simp (le-ltb 3 operation h, width_known ww, le-ltb 31 rn n, le-ltb 31 rd d)

-- a word is made only of numbers that are allowed and fields that the encoder gives
pub record Made (operation w rn rd x : ℕ) (a : Said LogicalImm) : Type 0 where
  pub known : operation ≤ 3
  pub rn_low : rn ≤ 31
  pub rd_low : rd ≤ 31
  pub f : LogicalImm
  pub given : a ≡ ok f
  pub word : x ≡ placed_of (base_of operation w) f rn rd

pub word_made : (operation w rn rd x : ℕ) (a : Said LogicalImm) → word_of operation w rn rd a ≡ ok (x ∷ []) → Made operation w rn rd x a
unfolding word_of
word_made operation w rn rd x a = go (ltb 3 operation) (not (eqb w 32 || eqb w 64)) (ltb 31 rn) (ltb 31 rd) a refl refl refl
  where
    go : (b c d e : Bool) (a : Said LogicalImm) → ltb 3 operation ≡ b → ltb 31 rn ≡ d → ltb 31 rd ≡ e
        → cond b (no 7) (cond c (no 1) (cond (d || e) (no 2) (filled (base_of operation w) rn rd a))) ≡ ok (x ∷ []) → Made operation w rn rd x a
    go true c d e a p q r h = absurd (not_both (sym h))
    go false true d e a p q r h = absurd (not_both (sym h))
    go false false true e a p q r h = absurd (not_both (sym h))
    go false false false true a p q r h = absurd (not_both (sym h))
    go false false false false (ok f) p q r h =
        record { known = ltb-false 3 operation p; rn_low = ltb-false 31 rn q; rd_low = ltb-false 31 rd r; f = f; given = refl; word = cc }
    go false false false false (no k) p q r h = absurd (not_both (sym h))

-- one word
pub word_alone : (operation w rn rd : ℕ) (a : Said LogicalImm) → Alone (word_of operation w rn rd a)
unfolding word_of
word_alone operation w rn rd a = go (ltb 3 operation) (not (eqb w 32 || eqb w 64)) (ltb 31 rn || ltb 31 rd) a
  where
    go : (b c d : Bool) (a : Said LogicalImm) → Alone (cond b (no 7) (cond c (no 1) (cond d (no 2) (filled (base_of operation w) rn rd a))))
    go true c d a = tt
    go false true d a = tt
    go false false true a = tt
    go false false false (ok f) = refl
    go false false false (no k) = tt

-- the word by value, as a list
pub word_listed : (operation w rn rd : ℕ) (a : Said LogicalImm) {x : Said Words} → x ≡ packed (word_of operation w rn rd a) → listed x ≡ word_of operation w rn rd a
word_listed operation w rn rd a q = ap listed q ∙ listed_packed (word_of operation w rn rd a) (alone_short (word_of operation w rn rd a) (word_alone operation w rn rd a))

-- ---- the word with its fields where Arm has them

pub word_spelled : (operation w rn rd : ℕ) (f : LogicalImm) → operation ≤ 3 → IsWidth w
    → placed_of (base_of operation w) f rn rd ≡ spelled (w / 64) operation f.n f.r f.s rn rd
word_spelled operation w rn rd f h ww = rw (← base_is operation w h ww) (omega arith)
