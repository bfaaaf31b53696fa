-- The cases of what is said, and how many words there are. Assumes nothing.
use mathlib.Core.Path.{◌≡◌, refl}
use mathlib.Core.Bool.{Bool, true, false, cond, not, ◌||◌}
use mathlib.Core.List.{List}
use Prim.Native.Nat.{ℕ, ◌<◌}
use native.Mathlib.Omega.{arith}
use borrow.Author.Tests.{ltb-false, eqb-true}
use lib.Dec.{ltb, eqb}
use lib.ListN.{length}
use Rattle.words.specs.Said.{Said, ok, no}
use Rattle.words.proofs.Answers.{Short}
use Rattle.patchable_moves.specs.Patchable.{patch64, patch32, patch_words, patch_said}

pub patch_by : (v size rd : ℕ) (P : Said (List ℕ) → Type 0) → P (no 1) → P (no 2)
    → (size ≡ 64 → rd < 31 → P (ok (patch64 v rd))) → (size ≡ 32 → rd < 31 → P (ok (patch32 v rd))) → P (patch_said v size rd)
unfolding patch_said patch_words
patch_by v size rd P other high at_64 at_32 = go (eqb size 64) refl (eqb size 32) refl (ltb 30 rd) refl
  where
    go : (a : Bool) → eqb size 64 ≡ a → (b : Bool) → eqb size 32 ≡ b → (c : Bool) → ltb 30 rd ≡ c
        → P (cond (not (a || b)) (no 1) (cond c (no 2) (ok (cond a (patch64 v rd) (patch32 v rd)))))
    go true e b f true g = high
    go true e b f false g = at_64 (eqb-true size 64 e) (omega (arith, ltb-false 30 rd g))
    go false e true f true g = high
    go false e true f false g = at_32 (eqb-true size 32 f) (omega (arith, ltb-false 30 rd g))
    go false e false f c g = other

pub patch64_length : (v rd : ℕ) → length (patch64 v rd) ≡ 4
unfolding patch64
patch64_length v rd = refl

pub patch32_length : (v rd : ℕ) → length (patch32 v rd) ≡ 2
unfolding patch32
patch32_length v rd = refl

-- words that are said fit a value of four
pub patch_short : (v size rd : ℕ) → Short (patch_said v size rd)
patch_short v size rd = patch_by v size rd Short tt tt (λ e l. omega (arith, patch64_length v rd)) (λ e l. omega (arith, patch32_length v rd))
