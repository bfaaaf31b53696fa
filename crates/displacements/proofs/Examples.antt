-- Worked values: "Run only" of document 01, and values at the edges. Assumes nothing.
use Rattle.std.proofs.Common.{◌^◌, [], ◌∷◌, pos, neg_ℤ, refl}
use Rattle.arm.proofs.Worked.{Worked}
use Rattle.words.specs.Said.{ok, no}
use Rattle.forms.specs.Form.{is_of_form}
use Rattle.displacements.specs.Answer.{place_said, disp_said, read_said}

pub written_right :
    Worked
    ((disp_said 3 0x10000000 (pos 5), ok (0x30000020 ∷ []))  -- "Run only"
    ∷ (disp_said 0 0x14000000 (pos 2), no 4)
    ∷ (disp_said 0 0x14000001 (pos 4), no 6)
    ∷ (disp_said 0 0x14000000 (neg_ℤ (pos 134217728)), ok (0x16000000 ∷ []))  -- the ends of a range are not equal
    ∷ (disp_said 0 0x14000000 (pos 134217724), ok (0x15FFFFFF ∷ []))
    ∷ (disp_said 0 0x14000000 (pos 134217730), no 4)  -- 4 before 5
    ∷ (disp_said 4 0x90000000 (neg_ℤ (pos (2 ^ 63))), no 5)
    ∷ (disp_said 6 0x14000001 (pos 2), no 7)  -- 7 before all
    ∷ (disp_said 0 0x10000000 (pos 4), no 11)  -- a branch distance into an ADR word
    ∷ (disp_said 3 0x14000000 (pos 5), no 11)
    ∷ (disp_said 1 0x54000010 (pos 4), no 11)  -- BC.cond
    ∷ (disp_said 5 0xDC000000 (pos 4), no 11)  -- unallocated
    ∷ (disp_said 0 0x10000001 (pos 2), no 11)  -- 11 before 6, 4 and 5
    ∷ (disp_said 5 0xD8000003 (neg_ℤ (pos 4)), ok (0xD8FFFFE3 ∷ []))  -- PRFM
    ∷ (disp_said 4 0x90000000 (pos 0x2004), no 4)  -- by distance, off a page
    ∷ [])
unfolding place_said is_of_form
written_right = refl

pub read_right :
    Worked
    ((read_said 0x17FFFFFF 0, ok (neg_ℤ (pos 4)))
    ∷ (read_said 0x58000040 5, ok (pos 8))
    ∷ (read_said 0x30000020 3, ok (pos 5))
    ∷ (read_said 0x90800000 4, ok (neg_ℤ (pos 4294967296)))
    ∷ (read_said 0x10000020 0, ok (pos 128))  -- a word of another form
    ∷ (read_said 0x14000000 6, no 7)
    ∷ [])
read_right = refl
