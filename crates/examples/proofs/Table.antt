-- Document 01's twelve marked examples as one checked table, through the definitions that the contracts cite; of the logical encoder, whose
-- contract is a relation, through the function that its one answer is (`the_answer` of logical/proofs/Model). Assumes nothing.
use mathlib.Core.Path.{refl}
use mathlib.Core.List.{List, [], ◌∷◌}
use Prim.Native.Nat.{ℕ}
use lib.IntN.{pos, neg_ℤ}
use Rattle.arm.specs.Bits.{Replicate}
use Rattle.arm.specs.BitMasks.{highest_set_bit, len, esize, wmask}
use Rattle.arm.proofs.Worked.{Worked}
use Rattle.words.specs.Said.{Said, ok, no}
use Rattle.halfwords.specs.Halfwords.{count}
use Rattle.logical.specs.Answer.{number_list}
use Rattle.logical.specs.declared.LogicalImm.{LogicalImm}
use Rattle.logical.proofs.Model.{encode_of}
use Rattle.logical_decoder.proofs.Examples.{normal_of_lem}
use Rattle.moves.specs.Moves.{others, long, short, words_of_move, mov_said}
use Rattle.forms.specs.Form.{is_of_form}
use Rattle.displacements.specs.Answer.{place_said, disp_said}

-- N, S, R and, since request d, the element length
abbrev numbers : Said LogicalImm → Said (List ℕ)
numbers (ok f) = ok (number_list f)
numbers (no k) = no k

-- what is asked beside what document 01 says
pub all_right :
    Worked
    ((numbers (encode_of 64 0xFF), ok (1 ∷ 7 ∷ 0 ∷ 64 ∷ []))  -- (1)
    ∷ (numbers (encode_of 32 0x1000000FF), ok (0 ∷ 7 ∷ 0 ∷ 32 ∷ []))  -- (2)
    ∷ (numbers (encode_of 64 0xAAAAAAAAAAAAAAAA), ok (0 ∷ 60 ∷ 1 ∷ 2 ∷ []))  -- (3)
    ∷ (numbers (encode_of 64 0x8000000000000001), ok (1 ∷ 1 ∷ 1 ∷ 64 ∷ []))  -- (4)
    ∷ (numbers (encode_of 64 5), no 3)  -- (5)
    ∷ (numbers (encode_of 32 0xFFFFFFFF), no 3)  -- (6)
    ∷ (numbers (normal_of_lem 64 0 60 5), ok (0 ∷ 60 ∷ 1 ∷ 2 ∷ []))  -- (7), at both widths
    ∷ (numbers (normal_of_lem 32 0 60 5), ok (0 ∷ 60 ∷ 1 ∷ 2 ∷ []))
    ∷ (mov_said 0xFFFFFFFE 1, ok (0x12800021 ∷ []))  -- (8)
    ∷ (mov_said 0x12345678 0, ok (0xD28ACF00 ∷ 0xF2A24680 ∷ []))  -- (9)
    ∷ (mov_said 0x1000000000000 0, ok (0xD2E00020 ∷ []))  -- (10)
    ∷ (disp_said 0 0x14000000 (neg_ℤ (pos 4)), ok (0x17FFFFFF ∷ []))  -- (11)
    ∷ (disp_said 0 0x14000000 (pos 134217728), no 5)
    ∷ (disp_said 5 0x58000000 (pos 8), ok (0x58000040 ∷ []))  -- (12)
    ∷ [])
unfolding encode_of wmask esize len highest_set_bit Replicate mov_said words_of_move long short count others place_said is_of_form
all_right = refl
