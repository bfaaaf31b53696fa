-- A logical immediate, by the fields of a word. Assumes nothing.
use mathlib.Core.Path.{◌≡◌, refl, sym, ap, ◌∙◌}
use mathlib.Core.Bool.{Bool, true, false, cond}
use mathlib.Core.Logic.{◌⊎◌, inl, inr}
use mathlib.Core.Option.{Option, none}
use Prim.Native.Nat.{ℕ, zero, suc, ◌+◌, ◌-◌, ◌*◌, ◌%◌, ◌≤◌, ◌<◌}
use native.Mathlib.Omega.{arith}
use borrow.Author.Tests.{eq-eqb, ne_eqb, eqb-true, eqb-false, ltb-true, ltb-false}
use lib.Dec.{eqb, ltb}
use Rattle.arm.specs.Bits.{bits}
use Rattle.arm.specs.BitMasks.{IsWidth, Legal, esize, wmask}
use Rattle.arm.specs.LogicalImmediate.{Logical, logical_op, defined, decode_logical}
use Rattle.arm.specs.MoveWide.{datasize}
use Rattle.arm.proofs.Fields.{not_short}
use Rattle.arm.proofs.Logical.{defined_exactly}
use Rattle.std.specs.Prelude.{None, Some, Result, Ok, Err}
use Rattle.std.specs.Result.{result_ok}
use Rattle.words.specs.Answer.{number_of, said}
use Rattle.words.specs.declared.Refusal.{Refusal}
use Rattle.words.specs.Said.{ok, no}
use Rattle.logical.proofs.Laws.{not_refused}
use Rattle.logical_decoder.specs.Answer.{Decoded}
use Rattle.items.specs.declared.Item.TheVariants as item
use Rattle.items.specs.declared.LogicalWord.{LogicalWord}
use Rattle.items.specs.Private.{logical_word_in, logical_in}
use Rattle.items.specs.Items.{form_number, displaced_of, operation_of, logical_or, other_of}

pub is_width : (sf : ℕ) → sf < 2 → IsWidth (datasize sf)
is_width zero l = inl refl
is_width (suc zero) l = inr refl
is_width (suc (suc s)) l = absurd (omega arith)

-- document 01's numbers of the operations are Arm's opc
pub operation_is : (k : ℕ) → k < 4 → operation_of (logical_op k) ≡ k
operation_is zero l = refl
operation_is (suc zero) l = refl
operation_is (suc (suc zero)) l = refl
operation_is (suc (suc (suc zero))) l = refl
operation_is (suc (suc (suc (suc k)))) l = absurd (omega arith)

-- a logical immediate to Arm
pub record IsLogical (w : ℕ) : Type 0 where
  pub group : bits 28 23 w ≡ 0b100100
  pub legal : Legal (datasize (bits 31 31 w)) (bits 22 22 w) (bits 15 10 w) (bits 21 16 w)

-- what it is
abbrev pub logical_at : ℕ → LogicalWord
logical_at w =
    let n = bits 22 22 w in
    let s = bits 15 10 w in
    let r = bits 21 16 w in
    record {
      operation = bits 30 29 w;
      width = datasize (bits 31 31 w);
      rn = bits 9 5 w;
      rd = bits 4 0 w;
      value = wmask (datasize (bits 31 31 w)) n s r;
      n = n;
      s = s;
      r = r;
      length = esize n s;
      normal = ltb r (esize n s);
    }

module _ (w : ℕ) where
  abbrev allowed : Bool
  allowed = defined (datasize (bits 31 31 w)) (bits 22 22 w) (bits 15 10 w)

  legal_is : (allowed ≡ true → Legal (datasize (bits 31 31 w)) (bits 22 22 w) (bits 15 10 w) (bits 21 16 w))
      × (Legal (datasize (bits 31 31 w)) (bits 22 22 w) (bits 15 10 w) (bits 21 16 w) → allowed ≡ true)
  legal_is = defined_exactly (datasize (bits 31 31 w)) (bits 22 22 w) (bits 15 10 w) (bits 21 16 w) (omega arith) (omega arith) (omega arith)

  -- ---- where it is none

  none_is : decode_logical w ≡ none → other_of w ≡ displaced_of w (form_number w)
  unfolding other_of
  none_is e = ap (λ (a : Option Logical). logical_or a (displaced_of w (form_number w))) e

  other_bits : (bits 28 23 w ≡ 0b100100 → ⊥) → decode_logical w ≡ none
  unfolding decode_logical
  other_bits h = simp (ne_eqb (bits 28 23 w) 0b100100 h)

  undefined : bits 28 23 w ≡ 0b100100 → (Legal (datasize (bits 31 31 w)) (bits 22 22 w) (bits 15 10 w) (bits 21 16 w) → ⊥) → decode_logical w ≡ none
  unfolding decode_logical
  undefined g h = rw (eq-eqb (bits 28 23 w) 0b100100 g) (go allowed refl _)
    where
      go : (b : Bool) → allowed ≡ b → (x : Option Logical) → cond b x none ≡ none
      go true e x = absurd (h (legal_is.0 e))
      go false e x = refl

  pub other_group : (bits 28 23 w ≡ 0b100100 → ⊥) → other_of w ≡ displaced_of w (form_number w)
  other_group h = none_is (other_bits h)

  pub no_mask : bits 28 23 w ≡ 0b100100 → (Legal (datasize (bits 31 31 w)) (bits 22 22 w) (bits 15 10 w) (bits 21 16 w) → ⊥) → other_of w ≡ displaced_of w (form_number w)
  no_mask g h = none_is (undefined g h)

  -- ---- where it is one

  pub is_logical : IsLogical w → other_of w ≡ item.Logical (logical_at w)
  unfolding other_of decode_logical
  is_logical l = rw (eq-eqb (bits 28 23 w) 0b100100 l.group, legal_is.1 l.legal, operation_is (bits 30 29 w) (omega arith))

  logical_some : IsLogical w → Some (logical_at w) ≡ logical_in w
  unfolding decode_logical
  logical_some l = sym (rw (eq-eqb (bits 28 23 w) 0b100100 l.group, legal_is.1 l.legal, operation_is (bits 30 29 w) (omega arith)))

  pub logical_cases : (other_of w ≡ displaced_of w (form_number w)) ⊎ IsLogical w
  logical_cases = go (eqb (bits 28 23 w) 0b100100) refl allowed refl
    where
      never : {A : Type 0} → true ≡ false → A
      never q = let z : ◌≡◌ {A = ℕ} 0 1 = cc in absurd (omega arith)

      go : (a : Bool) → eqb (bits 28 23 w) 0b100100 ≡ a → (b : Bool) → allowed ≡ b → (other_of w ≡ displaced_of w (form_number w)) ⊎ IsLogical w
      go false p b q = inl (other_group (eqb-false _ _ p))
      go true p true q = inr (record { group = eqb-true _ _ p; legal = legal_is.0 q })
      go true p false q = inl (no_mask (eqb-true _ _ p) (λ l. never (sym (legal_is.1 l) ∙ q)))

  -- ---- what is read of it, by the answer of the decoder of masks

  pub group_none : (bits 28 23 w ≡ 0b100100 → ⊥) → None ≡ logical_in w
  group_none h = sym (ap logical_word_in (other_bits h))

  size_is : 32 + bits 31 31 w * 32 ≡ datasize (bits 31 31 w)
  size_is = at (bits 31 31 w) (omega arith)
    where
      at : (sf : ℕ) → sf < 2 → 32 + sf * 32 ≡ datasize sf
      at zero l = refl
      at (suc zero) l = refl
      at (suc (suc s)) l = absurd (omega arith)

  pub mask_none : bits 28 23 w ≡ 0b100100 → (k : ℕ) → Decoded (32 + bits 31 31 w * 32) (bits 22 22 w) (bits 15 10 w) (bits 21 16 w) (no k) → None ≡ logical_in w
  mask_none g k h =
      sym (ap logical_word_in (undefined g (λ legal. not_refused (is_width (bits 31 31 w) (omega arith)) (λ none. none legal) (rw size_is at h))))

  module _ {v : ℕ} (h : Decoded (32 + bits 31 31 w * 32) (bits 22 22 w) (bits 15 10 w) (bits 21 16 w) (ok v)) where
    pub mask_long : 2 ≤ bits 22 22 w * 64 + (63 - bits 15 10 w)
    mask_long = go (ltb (bits 22 22 w * 64 + (63 - bits 15 10 w)) 2) refl
      where
        go : (b : Bool) → ltb (bits 22 22 w * 64 + (63 - bits 15 10 w)) 2 ≡ b → 2 ≤ bits 22 22 w * 64 + (63 - bits 15 10 w)
        go true e = absurd (not_short h.1.legal (ltb-true _ _ e))
        go false e = ltb-false _ _ e

    pub mask_is : bits 28 23 w ≡ 0b100100 → {e : ℕ} → e ≡ esize (bits 22 22 w) (bits 15 10 w)
        → Some (record {
          operation = bits 30 29 w;
          width = 32 + bits 31 31 w * 32;
          rn = bits 9 5 w;
          rd = w % 32;
          value = v;
          n = bits 22 22 w;
          s = bits 15 10 w;
          r = bits 21 16 w;
          length = e;
          normal = ltb (bits 21 16 w) e;
        }) ≡ logical_in w
    mask_is g {e} q =
        let m = rw size_is at h in
        let d : bits 4 0 w ≡ w % 32 = omega arith in
        sym (sym (logical_some (record { group = g; legal = m.1.legal })) ∙ rw (d, m.1.mask, q, size_is))

  -- the same of the decoder's answer as the code has it
  abbrev Answered : Result ℕ Refusal → Type 0
  Answered r = Decoded (32 + bits 31 31 w * 32) (bits 22 22 w) (bits 15 10 w) (bits 21 16 w) (said r)

  pub mask_err : bits 28 23 w ≡ 0b100100 → (r : Result ℕ Refusal) → Answered r → None ≡ result_ok r → None ≡ logical_in w
  mask_err g (Ok v) h e = let z : ◌≡◌ {A = ℕ} 0 1 = cc in absurd (omega arith)
  mask_err g (Err k) h e = mask_none g (number_of k) h

  pub mask_ok : (r : Result ℕ Refusal) {v : ℕ} → Some v ≡ result_ok r → Answered r → Answered (Ok v)
  mask_ok (Ok u) {v} e h = let same : v ≡ u = cc in rw same h
  mask_ok (Err k) e h = let z : ◌≡◌ {A = ℕ} 0 1 = cc in absurd (omega arith)
