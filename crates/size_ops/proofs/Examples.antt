-- Worked values of `element_type_to_size_op`, one computed test. Assumes nothing.
use mathlib.Core.Path.{refl}
use mathlib.Core.List.{[], ◌∷◌}
use Rattle.arm.proofs.Worked.{Worked}
use Rattle.words.specs.Said.{ok, no}
use Rattle.size_ops.specs.SizeOp.{entry_of, accepted_of, size_op_of}

-- with every bit accepted and kept, and with some

pub size_ops_lem :
    Worked
    ((size_op_of 0 15 0xFFFF 6 0, ok 0)
    ∷ (size_op_of 0 15 0xFFFF 7 1, ok 1)
    ∷ (size_op_of 0 15 0xFFFF 7 2, ok 255)
    ∷ (size_op_of 1 15 0xFFFF 3 0, ok 2)
    ∷ (size_op_of 1 15 0xFFFF 6 4, ok 14)
    ∷ (size_op_of 1 15 0xFFFF 7 4, ok 13)
    ∷ (size_op_of 1 13 0xFFFF 6 4, ok 12)  -- the scalar bit is masked
    ∷ (size_op_of 1 15 0x0020 7 2, ok 5)
    ∷ (size_op_of 1 15 0xFFDF 7 2, ok 255)  -- not accepted
    ∷ (size_op_of 1 15 0xFFFF 0 0, ok 255)
    ∷ (size_op_of 1 255 0xFFFFFFFF 7 7, ok 255)
    ∷ (size_op_of 2 15 0xFFFF 7 1, no 7)
    ∷ (size_op_of 1 15 0xFFFF 8 1, no 7)
    ∷ (size_op_of 1 15 0xFFFF 7 8, no 7)
    ∷ [])
unfolding size_op_of accepted_of entry_of
size_ops_lem = refl
