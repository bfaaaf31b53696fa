-- Worked values, also at the edges. Assumes nothing.
use Rattle.std.proofs.Common.{ℕ, ◌^◌, List, [], ◌∷◌, refl}
use mathlib.Core.Option.{Option, some, none}
use Rattle.arm.proofs.Worked.{Worked}
use Rattle.words.specs.Said.{Said, ok, no}
use Rattle.words.specs.Place.{place_at, address_of}
use Rattle.words.specs.declared.Place.{Place}
use Rattle.writers.specs.Put.{put_at, based, put_of}
use Rattle.forms.specs.Form.{is_of_form}
use Rattle.displacements.specs.Answer.{place_said}
use Rattle.disp_targets.specs.Target.{target_said, low_of, carrying}

pub written_right :
    Worked
    ((target_said 4 0x10000000 0x3000 0x1FFF, no 11)  -- an ADR word at ADRP
    ∷ (target_said 0 0x14000000 0 0xFFFFFFFFFFFFFFFC, ok (0x14000001 ∷ []))  -- over the end of the addresses
    ∷ (target_said 0 0x14000000 (2 ^ 63) 0, no 5)
    ∷ [])
unfolding place_said is_of_form
written_right = refl

-- the word and the low bits of a target
abbrev told : (n b t a : ℕ) → Said (List ℕ × Option ℕ)
told n b t a = carrying (low_of n t) (target_said n b t a)

pub targets_right :
    Worked
    ((told 4 0x90000000 0x3000 0x1FFF, ok (0xD0000000 ∷ [], some 0))  -- two pages on
    ∷ (told 4 0x90000000 0x3004 0x1000, ok (0xD0000000 ∷ [], some 4))  -- inside a page
    ∷ (told 4 0x90000000 0x3FFF 0x1000, ok (0xD0000000 ∷ [], some 0xFFF))
    ∷ (told 4 0x90000000 0x1008 0x1FFC, ok (0x90000000 ∷ [], some 8))  -- back in the page of the instruction
    ∷ (told 4 0x90000007 0xFFF 0x1000, ok (0xF0FFFFE7 ∷ [], some 0xFFF))  -- a byte before it
    ∷ (told 4 0x90000000 0x123 0xFFFFFFFFFFFFFFFC, ok (0xB0000000 ∷ [], some 0x123))  -- over the end of the addresses
    ∷ (told 4 0x90000000 0xFFFFFFFFFFFFFFFF 0, ok (0xF0FFFFE0 ∷ [], some 0xFFF))
    ∷ (told 4 0x90000000 0x100000FFF 0x1000, ok (0xF07FFFE0 ∷ [], some 0xFFF))  -- the greatest distance of pages
    ∷ (told 4 0x90000000 0x100001000 0x1FFF, no 5)
    ∷ (told 4 0x90000000 0x1000 0x100001FFC, ok (0x90800000 ∷ [], some 0))  -- the least
    ∷ (told 4 0x90000000 0xFFF 0x100001000, no 5)
    ∷ (told 4 0x90000020 0x3004 0x1000, no 6)
    ∷ (told 4 0x10000000 0x3004 0x1000, no 11)
    ∷ (told 3 0x10000000 0x3004 0x3000, ok (0x10000020 ∷ [], none))  -- no other format carries them
    ∷ (told 0 0x14000000 0x3004 0x3000, ok (0x14000001 ∷ [], none))
    ∷ (told 0 0x14000000 0x3006 0x3000, no 4)  -- or loses them
    ∷ (told 6 0x90000000 0x3004 0x1000, no 7)
    ∷ [])
unfolding place_said is_of_form
targets_right = refl

-- a target written from a place of a run of four words
abbrev run : List ℕ
run = 1 ∷ 2 ∷ 3 ∷ 4 ∷ []

abbrev from : (base position n b t : ℕ) → Said Place × List ℕ
from base position n b t = let at = place_at base position in put_of run at (target_said n b t (address_of at))

pub places_right :
    Worked
    ((from 0 3 0 0x14000000 0x1000, (ok (place_at 0 4), 1 ∷ 2 ∷ 3 ∷ 0x140003FD ∷ []))
    ∷ (from 0x1000 3 0 0x14000000 0x1000, (ok (place_at 0x1000 4), 1 ∷ 2 ∷ 3 ∷ 0x17FFFFFD ∷ []))
    ∷ (from 0xFFFFFFFFFFFFFFFC 0 0 0x14000000 0, (ok (place_at 0xFFFFFFFFFFFFFFFC 1), 0x14000001 ∷ 2 ∷ 3 ∷ 4 ∷ []))
    ∷ (from 0xFFFFFFFFFFFFFFFC 1 0 0x14000000 0, (ok (place_at 0xFFFFFFFFFFFFFFFC 2), 1 ∷ 0x14000000 ∷ 3 ∷ 4 ∷ []))  -- its address is 0
    ∷ (from 0xFFFFFFFFFFFFFFFC 3 0 0x14000000 0, (ok (place_at 0xFFFFFFFFFFFFFFFC 4), 1 ∷ 2 ∷ 3 ∷ 0x17FFFFFE ∷ []))
    ∷ (from 0xFFC 1 4 0x90000000 0x3456, (ok (place_at 0xFFC 2), 1 ∷ 0xD0000000 ∷ 3 ∷ 4 ∷ []))  -- the word is on the next page
    ∷ (from 4 4 0 0x14000000 0, (no 8, run))
    ∷ (from 1 0 0 0x14000000 0, (no 15, run))
    ∷ (from 2 0 0 0x14000000 0, (no 15, run))
    ∷ (from 3 0 0 0x14000000 0, (no 15, run))
    ∷ (from 2 4 0 0x14000000 0, (no 15, run))  -- 15 before 8
    ∷ (from 4 4 6 0x10000001 2, (no 7, run))
    ∷ (from 2 4 6 0x10000001 2, (no 15, run))  -- 15 before 7
    ∷ [])
unfolding place_said is_of_form put_of put_at based
places_right = refl
