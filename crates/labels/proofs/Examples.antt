-- Worked values: a loop that jumps forward and back, and each refusal. Assumes nothing.
use mathlib.Core.Path.{refl}
use mathlib.Core.List.{List, [], ◌∷◌}
use Prim.Native.Nat.{ℕ}
use Rattle.arm.proofs.Worked.{Worked}
use Rattle.words.specs.Said.{ok, no}
use Rattle.words.specs.Place.{place_at}
use Rattle.words.specs.declared.Place.{Place}
use Rattle.forms.specs.Form.{is_of_form}
use Rattle.displacements.specs.Answer.{place_said}
use Rattle.labels.specs.declared.Use.{Use}
use Rattle.labels.specs.Sheet.{aligned, names_label, room_for, target, use_refusal, made_from, word_number, bind_of, use_record, use_of, finish_of}

-- CBZ to the exit, two words, B to the start, RET
abbrev run : List ℕ
run = 0xB4000001 ∷ 0x8B010000 ∷ 0xD1000421 ∷ 0x14000000 ∷ 0xD65F03C0 ∷ []

abbrev at : ℕ → Place
at p = place_at 0x1000 p

-- label 0 at the start, label 1 at the RET
abbrev bound : List ℕ
bound = 1 ∷ 5 ∷ []

abbrev free : Use
free = use_record 9 (at 9) 9

abbrev forth : Use
forth = use_record 1 (at 0) 1

abbrev back : Use
back = use_record 0 (at 3) 0

pub binds_right :
    Worked
    ((bind_of (0 ∷ 0 ∷ []) run 0 (at 0), (ok tt, 1 ∷ 0 ∷ []))
    ∷ (bind_of (0 ∷ 0 ∷ []) run 1 (at 5), (ok tt, 0 ∷ 6 ∷ []))  -- the end of the run
    ∷ (bind_of (0 ∷ 0 ∷ []) run 1 (at 6), (no 8, 0 ∷ 0 ∷ []))
    ∷ (bind_of bound run 1 (at 6), (no 13, bound))  -- 13 before 8
    ∷ (bind_of bound run 2 (at 6), (no 12, bound))  -- past the table
    ∷ (bind_of bound run 2 (place_at 0x1002 6), (no 15, bound))  -- 15 before all
    ∷ [])
unfolding aligned names_label
binds_right = refl

pub uses_right :
    Worked
    ((use_of bound run (free ∷ free ∷ []) 0 (at 0) forth, (ok 1, forth ∷ free ∷ []))
    ∷ (use_of bound run (forth ∷ free ∷ []) 1 (at 3) back, (ok 2, forth ∷ back ∷ []))
    ∷ (use_of (0 ∷ 0 ∷ []) run (forth ∷ free ∷ []) 1 (at 3) back, (ok 2, forth ∷ back ∷ []))  -- a label that is not bound yet
    ∷ (use_of bound run (forth ∷ back ∷ []) 2 (at 3) (use_record 1 (at 3) 0), (no 16, forth ∷ back ∷ []))  -- 16 before 14
    ∷ (use_of bound run (forth ∷ []) 1 (at 3) back, (no 14, forth ∷ []))
    ∷ (use_of bound run (forth ∷ []) 7 (at 3) back, (no 14, forth ∷ []))  -- a count above the sheet
    ∷ (use_of bound run (forth ∷ []) 7 (at 0) forth, (no 16, forth ∷ []))
    ∷ (use_of bound run (free ∷ []) 0 (at 0) (use_record 1 (at 0) 0), (no 11, free ∷ []))  -- CBZ at format 0
    ∷ (use_of bound (0x14000001 ∷ []) (free ∷ []) 0 (at 0) (use_record 1 (at 0) 0), (no 6, free ∷ []))
    ∷ (use_of bound run (free ∷ []) 0 (at 5) (use_record 1 (at 5) 0), (no 8, free ∷ []))
    ∷ (use_of bound run (free ∷ []) 0 (at 5) (use_record 2 (at 5) 0), (no 12, free ∷ []))  -- 12 before 8
    ∷ (use_of bound run (free ∷ []) 0 (at 5) (use_record 2 (at 5) 6), (no 7, free ∷ []))  -- 7 before 12
    ∷ [])
unfolding aligned names_label room_for use_refusal is_of_form
uses_right = refl

pub finished_right :
    Worked
    ((finish_of (at 0) bound run (forth ∷ back ∷ []) 2, (ok 0, 0xB4000081 ∷ 0x8B010000 ∷ 0xD1000421 ∷ 0x17FFFFFD ∷ 0xD65F03C0 ∷ []))
    ∷ (finish_of (at 0) bound run (back ∷ forth ∷ []) 2, (ok 0, 0xB4000081 ∷ 0x8B010000 ∷ 0xD1000421 ∷ 0x17FFFFFD ∷ 0xD65F03C0 ∷ []))  -- another order
    ∷ (finish_of (at 0) bound run (forth ∷ back ∷ []) 0, (ok 0, run))  -- none waits
    ∷ (finish_of (at 0) bound run (forth ∷ back ∷ []) 3, (no 14, run))
    ∷ (finish_of (at 0) (1 ∷ 0 ∷ []) run (back ∷ forth ∷ []) 2, (no 12, run))  -- unbound, and the word before it is not written
    ∷ (finish_of (at 0) (1 ∷ 7 ∷ []) run (back ∷ forth ∷ []) 2, (no 8, run))  -- a label past the end
    ∷ (finish_of (at 0) bound run (back ∷ back ∷ []) 2, (no 16, run))
    ∷ (finish_of (place_at 0x1001 0) bound run (forth ∷ back ∷ []) 3, (no 15, run))  -- 15 before 14
    ∷ (finish_of (place_at 0x1FFC 0) (0 ∷ 2 ∷ []) (0x90000003 ∷ 0 ∷ []) (use_record 1 (at 0) 4 ∷ []) 1, (ok 0, 0xB0000003 ∷ 0 ∷ []))  -- ADRP to the next page
    ∷ [])
unfolding aligned names_label room_for target made_from word_number is_of_form place_said
finished_right = refl
