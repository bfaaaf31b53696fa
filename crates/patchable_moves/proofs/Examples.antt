-- Worked values of patchable moves, whose words GNU as gave, as one table. Assumes nothing.
use mathlib.Core.Path.{refl}
use mathlib.Core.List.{[], ◌∷◌}
use Rattle.arm.proofs.Worked.{Worked}
use Rattle.words.specs.Said.{ok, no}
use Rattle.patchable_moves.specs.Patchable.{patch64, patch32, patch_words, patch_said}

pub examples :
    Worked
    ((patch_said 0x123456789ABCDEF0 64 5, ok (0xD29BDE05 ∷ 0xF2B35785 ∷ 0xF2CACF05 ∷ 0xF2E24685 ∷ []))
    ∷ (patch_said 0 64 30, ok (0xD280001E ∷ 0xF2A0001E ∷ 0xF2C0001E ∷ 0xF2E0001E ∷ []))  -- four words for any value
    ∷ (patch_said 0xAFFFFFFFF 32 7, ok (0x529FFFE7 ∷ 0x72BFFFE7 ∷ []))  -- the low 32 bits
    ∷ (patch_said 0 16 31, no 1)  -- 1 before 2
    ∷ (patch_said 0 64 31, no 2)
    ∷ [])
unfolding patch_said patch_words patch64 patch32
examples = refl
