-- What the contract of `encode_lmh` amounts to. Assumes nothing.
use mathlib.Core.Path.{◌≡◌, refl}
use mathlib.Core.Logic.{◌⊎◌, inl, inr}
use Prim.Native.Nat.{ℕ, ◌+◌, ◌*◌, ◌≤◌}
use borrow.Author.Tests.{eqb-true, ltb-false}
use native.Mathlib.Omega.{arith}
use lib.Dec.{eqb, ltb}
use Rattle.words.specs.Said.{Said, ok, no}
use Rattle.simd.specs.declared.Lmh.{Lmh}
use Rattle.simd.specs.Lmh.{lmh_of}
use Rattle.simd.proofs.Laws.{either}

-- the fields have one and two bits, and H : L : M is the index, doubled at size 2; no number but 7 and 9 is given
abbrev pub LmhFair : ℕ → ℕ → Said Lmh → Type 0
LmhFair size index (ok f) = (f.h ≤ 1) × (f.lm ≤ 3) × (f.h * 4 + f.lm ≡ index * size)
LmhFair size index (no n) = (n ≡ 7) ⊎ (n ≡ 9)

pub lmh_fair : (size index : ℕ) → LmhFair size index (lmh_of size index)
unfolding lmh_of
lmh_fair size index =
    either (LmhFair size index) (eqb size 1) _ _
    (λ e. either (LmhFair size index) (ltb 7 index) _ _ (λ h. inr refl)
    (λ h. rw (eqb-true size 1 e) (omega (arith, ltb-false 7 index h), omega (arith, ltb-false 7 index h), omega (arith, ltb-false 7 index h))))
    (λ d. either (LmhFair size index) (eqb size 2) _ _
    (λ e. either (LmhFair size index) (ltb 3 index) _ _ (λ h. inr refl)
    (λ h. rw (eqb-true size 2 e) (omega (arith, ltb-false 3 index h), omega (arith, ltb-false 3 index h), omega (arith, ltb-false 3 index h))))
    (λ e. inl refl))
