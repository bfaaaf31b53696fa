-- Worked values. Assumes nothing.
use mathlib.Core.Path.{refl}
use mathlib.Core.List.{List, [], ◌∷◌}
use Prim.Native.Nat.{ℕ, ◌+◌}
use Rattle.arm.specs.LogicalImmediate.{decode_logical}
use Rattle.arm.specs.MoveWide.{decode, exec, run}
use Rattle.arm.proofs.Worked.{Worked}
use Rattle.std.specs.Prelude.{Ok, Err, Result}
use Rattle.words.specs.declared.Refusal.{Refusal}
use Rattle.words.specs.declared.Refusal.TheVariants.{Width, Register, NoField, NoRoom}
use Rattle.forms.specs.Form.{is_of_form}
use Rattle.items.specs.Items.{opc, form_number, other_of, item_of}
use Rattle.items.specs.declared.Item.TheVariants as item
use Rattle.reader.specs.declared.Constant.{Constant}
use Rattle.reader.specs.declared.Found.{Found}
use Rattle.reader.specs.declared.Found.TheVariants.{Joined, Single, End}
use Rattle.reader.specs.Found.{span, leading, joined_of, found_of, joined_on, resumed_of}

abbrev constant : (sf rd value count : ℕ) → Constant
constant sf rd value count = record { sf = sf; rd = rd; value = value; count = count }

abbrev movk : (sf hw imm16 rd at : ℕ) → Result Found Refusal
movk sf hw imm16 rd at = Ok (Single (item.Wide (record { sf = sf; opc = 3; hw = hw; imm16 = imm16; rd = rd })) (span at (at + 1)))

-- movz x0, #1; movk x0, #2; movk x0, #3, lsl #16; movk w0, #4; movk x1, #5; nop
abbrev run₁ : List ℕ
run₁ = 0xD2800020 ∷ 0xF2800040 ∷ 0xF2A00060 ∷ 0x72800080 ∷ 0xF28000A1 ∷ 0xD503201F ∷ []

pub found :
    Worked
    ((found_of run₁ 0, Ok (Joined (constant 1 0 0x30002 3) (span 0 3)))  -- the second halfword overwrites the first; another size ends it
    ∷ (found_of run₁ 1, movk 1 0 2 0 1)  -- from the middle of a constant
    ∷ (found_of run₁ 3, movk 0 0 4 0 3)
    ∷ (found_of run₁ 4, movk 1 0 5 1 4)
    ∷ (found_of run₁ 5, Ok (Single (item.Unknown (opc 0xD503201F)) (span 5 6)))
    ∷ (found_of run₁ 6, Ok End)
    ∷ (found_of run₁ 7, Err NoRoom)
    ∷ (found_of (0x12800000 ∷ []) 0, Ok (Joined (constant 0 0 0xFFFFFFFF 1) (span 0 1)))  -- movn w0, #0
    ∷ (found_of (0x92800003 ∷ []) 0, Ok (Joined (constant 1 3 0xFFFFFFFFFFFFFFFF 1) (span 0 1)))  -- movn x3, #0
    ∷ (found_of (0x12800000 ∷ 0x72A00000 ∷ 0x72C00000 ∷ []) 0, Ok (Joined (constant 0 0 0xFFFF 2) (span 0 2)))  -- halfword 2 at size 32 ends it
    ∷ (found_of [] 0, Ok End)
    ∷ [])
unfolding found_of item_of decode joined_of leading run exec other_of decode_logical form_number is_of_form
found = refl

pub resumed :
    Worked
    ((resumed_of (0xF2A00060 ∷ 0xF28000A1 ∷ []) (constant 1 0 2 7), Ok (Joined (constant 1 0 0x30002 8) (span 0 1)))
    ∷ (resumed_of [] (constant 0 30 5 1), Ok (Joined (constant 0 30 5 1) (span 0 0)))
    ∷ (resumed_of [] (constant 2 31 0x100000000 1), Err Width)  -- the order of the refusals
    ∷ (resumed_of [] (constant 0 31 0x100000000 1), Err Register)
    ∷ (resumed_of [] (constant 0 30 0x100000000 1), Err NoField)
    ∷ (resumed_of (0 ∷ []) (constant 0 30 0 0xFFFFFFFFFFFFFFFF), Err NoRoom)
    ∷ [])
unfolding resumed_of joined_on decode leading run exec
resumed = refl
