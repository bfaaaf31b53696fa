-- Worked values of `encode_lmh`, one computed test. Assumes nothing.
use mathlib.Core.Path.{refl}
use mathlib.Core.List.{[], ◌∷◌}
use Prim.Native.Nat.{ℕ}
use Rattle.arm.proofs.Worked.{Worked}
use Rattle.words.specs.Said.{Said, ok, no}
use Rattle.simd.specs.declared.Lmh.{Lmh}
use Rattle.simd.specs.Lmh.{lmh_of}

abbrev fields : ℕ → ℕ → ℕ → Said Lmh
fields lm h limit = ok (record { lm = lm; h = h; max_rm_id = limit })

pub lmhs :
    Worked
    ((lmh_of 1 0, fields 0 0 15)
    ∷ (lmh_of 1 7, fields 3 1 15)
    ∷ (lmh_of 1 8, no 9)
    ∷ (lmh_of 2 1, fields 2 0 31)
    ∷ (lmh_of 2 3, fields 2 1 31)
    ∷ (lmh_of 2 4, no 9)
    ∷ (lmh_of 0 0, no 7)
    ∷ (lmh_of 3 9, no 7)
    ∷ [])
unfolding lmh_of
lmhs = refl
