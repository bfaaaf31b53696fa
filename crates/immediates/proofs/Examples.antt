-- Document 01's examples of module 8 and some neighbours: the one answer that each contract allows, computed. Assumes nothing.
use mathlib.Core.Path.{◌≡◌, refl}
use mathlib.Core.Bool.{Bool, true, false, cond}
use mathlib.Core.List.{[], ◌∷◌}
use mathlib.Core.Logic.{inl, inr, ⊎_elim}
use Prim.Native.Nat.{ℕ, ◌%◌, ◌^◌}
use borrow.Author.Tests.{eqb-true, eqb-false}
use lib.Dec.{eqb}
use Rattle.arm.specs.Imm8.{read_float, read_mask, float_sum, mask_sum}
use Rattle.arm.proofs.Worked.{Worked}
use Rattle.words.specs.Said.{Said, ok, no}
use Rattle.immediates.specs.Says.{FloatSays, MaskSays}
use Rattle.immediates.specs.Steps.{settled}
use Rattle.immediates.proofs.Laws.{fp16, fp32, fp64, mask}
use Rattle.immediates.proofs.Determined.{one_float, one_mask}

abbrev pub at : (ℕ → ℕ) → (ℕ → ℕ) → ℕ → Said ℕ
at read sum x = settled (read x) (sum (read x)) x

abbrev pub float_of : ℕ → ℕ → Said ℕ
float_of N v =
    cond (eqb N 16) (at (read_float 5 10) (float_sum 1 6) (v % 2 ^ 16))
    (cond (eqb N 32) (at (read_float 8 23) (float_sum 4 19) (v % 2 ^ 32))
    (cond (eqb N 64) (at (read_float 11 52) (float_sum 7 48) (v % 2 ^ 64))
    (no 1)))

abbrev pub mask_of : ℕ → Said ℕ
mask_of v = at (read_mask 8) (mask_sum 8) v

-- each is the answer that the contract allows
pub float_of_lem : (N v : ℕ) (a : Said ℕ) → FloatSays N v a → a ≡ float_of N v
unfolding FloatSays
float_of_lem N v a s = one_float N v a (float_of N v) s (by (eqb N 16) (eqb N 32) (eqb N 64) refl refl refl)
  where
    by : (p q r : Bool) → eqb N 16 ≡ p → eqb N 32 ≡ q → eqb N 64 ≡ r
        → FloatSays N v (cond p (at (read_float 5 10) (float_sum 1 6) (v % 2 ^ 16))
        (cond q (at (read_float 8 23) (float_sum 4 19) (v % 2 ^ 32))
        (cond r (at (read_float 11 52) (float_sum 7 48) (v % 2 ^ 64))
        (no 1))))
    by true q r e f g = rw (eqb-true N 16 e) (inl (inl refl, fp16 (v % 2 ^ 16)))
    by false true r e f g = rw (eqb-true N 32 f) (inl (inr (inl refl), fp32 (v % 2 ^ 32)))
    by false false true e f g = rw (eqb-true N 64 g) (inl (inr (inr refl), fp64 (v % 2 ^ 64)))
    by false false false e f g = inr (⊎_elim (eqb-false N 16 e) (⊎_elim (eqb-false N 32 f) (eqb-false N 64 g)), refl)

pub mask_of_lem : (v : ℕ) (a : Said ℕ) → MaskSays v a → a ≡ mask_of v
mask_of_lem v a s = one_mask v a (mask_of v) s (mask v)

-- "1.0 in fp64: 112; 0.0: no 3; mask FF000000000000FF: 129"
pub one : (a : Said ℕ) → FloatSays 64 0x3FF0000000000000 a → a ≡ ok 112
one a s = float_of_lem 64 0x3FF0000000000000 a s

pub zero : (a : Said ℕ) → FloatSays 64 0 a → a ≡ no 3
zero a s = float_of_lem 64 0 a s

pub ends : (a : Said ℕ) → MaskSays 0xFF000000000000FF a → a ≡ ok 129
unfolding read_mask mask_sum
ends a s = mask_of_lem 0xFF000000000000FF a s

-- neighbours, in one test
pub all_right :
    Worked
    ((float_of 64 0xC03F000000000000, ok 191)  -- -31.0
    ∷ (float_of 64 0x3FF0000000000001, no 3)  -- a fraction bit below
    ∷ (float_of 64 0x7FF0000000000000, no 3)  -- infinity: a wrong run of the exponent
    ∷ (float_of 32 0x3F800000, ok 112)
    ∷ (float_of 32 0x123456783F800000, ok 112)  -- bits above are ignored
    ∷ (float_of 32 0xBF000000, ok 224)  -- -0.5
    ∷ (float_of 16 0x3C00, ok 112)
    ∷ (float_of 16 0xFFFF3C00, ok 112)
    ∷ (float_of 16 0x3C01, no 3)
    ∷ (float_of 8 0x70, no 1)
    ∷ (float_of 0 0, no 1)
    ∷ (mask_of 0, ok 0)
    ∷ (mask_of 0xFFFFFFFFFFFFFFFF, ok 255)
    ∷ (mask_of 0xFF00000000000000, ok 128)
    ∷ (mask_of 0x00000000000000FE, no 3)
    ∷ (mask_of 0x0100000000000000, no 3)
    ∷ [])
unfolding read_mask mask_sum
all_right = refl
