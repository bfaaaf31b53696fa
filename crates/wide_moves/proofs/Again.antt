-- The word of a wide move's fields, by cases; and every wide move, written again from its own fields, is the same word. Assumes nothing.
use mathlib.Core.Path.{◌≡◌, refl, sym, ap, ◌∙◌}
use mathlib.Core.Bool.{Bool, true, false, ◌||◌}
use mathlib.Core.List.{[], ◌∷◌}
use Prim.Native.Nat.{ℕ, ◌+◌, ◌*◌, ◌/◌, ◌%◌, ◌^◌, ◌≤◌, ◌<◌}
use native.Mathlib.Omega.{arith}
use borrow.Author.Tests.{ne_eqb, lt-ltb, le-ltb, le-leb, lt-leb}
use lib.Dec.{eqb, leb}
use lib.Pow.{shr-shr, split}
use Rattle.arm.specs.Bits.{bits}
use Rattle.words.specs.Said.{ok, no}
use Rattle.wide_moves.specs.declared.WideMove.{WideMove}
use Rattle.wide_moves.specs.Wide.{composed, wide_said}
use Rattle.wide_moves.proofs.Wides.{Passes, fields_of}

either : (b : Bool) {c : Bool} → c ≡ true → (b || c) ≡ true
either true q = refl
either false q = q

-- ---- what is said of fields

module _ (m : WideMove) where
  pub said_1 : m.opc ≡ 1 → wide_said m ≡ no 7
  unfolding wide_said
  said_1 a = rw a

  pub said_above : 3 < m.opc → wide_said m ≡ no 7
  unfolding wide_said
  said_above a = rw (either (eqb m.opc 1) (lt-ltb 3 m.opc a))

  module _ (one : m.opc ≡ 1 → ⊥) (op : m.opc ≤ 3) where
    pub said_size : 1 < m.sf → wide_said m ≡ no 1
    unfolding wide_said
    said_size a = rw (ne_eqb m.opc 1 one, le-ltb 3 m.opc op, lt-ltb 1 m.sf a)

    module _ (sf : m.sf ≤ 1) where
      pub said_register : 30 < m.rd → wide_said m ≡ no 2
      unfolding wide_said
      said_register a = rw (ne_eqb m.opc 1 one, le-ltb 3 m.opc op, le-ltb 1 m.sf sf, lt-ltb 30 m.rd a)

      module _ (rd : m.rd ≤ 30) where
        pub said_place : 2 + 2 * m.sf ≤ m.hw → wide_said m ≡ no 3
        unfolding wide_said
        said_place a = rw (ne_eqb m.opc 1 one, le-ltb 3 m.opc op, le-ltb 1 m.sf sf, le-ltb 30 m.rd rd, le-leb (2 + 2 * m.sf) m.hw a)

        pub said_halfword : 65535 < m.imm16 → wide_said m ≡ no 3
        unfolding wide_said
        said_halfword a =
            rw (ne_eqb m.opc 1 one, le-ltb 3 m.opc op, le-ltb 1 m.sf sf, le-ltb 30 m.rd rd, either (leb (2 + 2 * m.sf) m.hw) (lt-ltb 65535 m.imm16 a))

        pub said_word : m.hw < 2 + 2 * m.sf → m.imm16 ≤ 65535 → wide_said m ≡ ok (composed m ∷ [])
        unfolding wide_said
        said_word a b =
            rw (ne_eqb m.opc 1 one, le-ltb 3 m.opc op, le-ltb 1 m.sf sf, le-ltb 30 m.rd rd, lt-leb (2 + 2 * m.sf) m.hw a, le-ltb 65535 m.imm16 b)

-- ---- a word of its own fields

-- a shift is a further one, and the bits between
pub cut : (w k m : ℕ) → w / 2 ^ k ≡ w / 2 ^ (k + m) * 2 ^ m + w / 2 ^ k % 2 ^ m
cut w k m = rw (← shr-shr w k m) (sym (split (w / 2 ^ k) m))

pub top : (w : ℕ) → w < 2 ^ 32 → w / 2 ^ 31 ≡ bits 31 31 w
top w l = omega arith

pub composed-same : (w : ℕ) → w < 2 ^ 32 → Passes w → composed (fields_of w) ≡ w
composed-same w l p =
    sum w (w / 2 ^ 5) (w / 2 ^ 21) (w / 2 ^ 23) (w / 2 ^ 29) (bits 31 31 w) (w % 32) (bits 20 5 w) (bits 22 21 w) (bits 30 29 w)
    (omega arith) (cut w 5 16) (cut w 21 2) (cut w 23 6 ∙ ap (λ (k : ℕ). w / 2 ^ 29 * 2 ^ 6 + k) p.group) (cut w 29 2 ∙ ap (λ (k : ℕ). k * 2 ^ 2 + bits 30 29 w) (top w l))
  where
    sum : (w a b c d sf rd imm hw opc : ℕ) → w ≡ a * 32 + rd → a ≡ b * 2 ^ 16 + imm → b ≡ c * 2 ^ 2 + hw → c ≡ d * 2 ^ 6 + 0b100101 → d ≡ sf * 2 ^ 2 + opc
        → sf * 2 ^ 31 + opc * 2 ^ 29 + 0b100101 * 2 ^ 23 + hw * 2 ^ 21 + imm * 2 ^ 5 + rd ≡ w
    sum w a b c d sf rd imm hw opc p q r s t = omega arith

pub wide_again : (w : ℕ) → w < 2 ^ 32 → Passes w → wide_said (fields_of w) ≡ ok (w ∷ [])
wide_again w l p =
    let r = p.register in
    said_word (fields_of w) p.opc (omega arith) (omega arith) (omega arith) p.size (omega arith) ∙ ap (λ (k : ℕ). ok (k ∷ [])) (composed-same w l p)
