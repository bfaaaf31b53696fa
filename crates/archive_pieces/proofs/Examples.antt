-- Worked values: a run of five words, cut in three. Assumes nothing.
use mathlib.Core.Path.{refl}
use mathlib.Core.List.{[], ◌∷◌}
use Prim.Native.Nat.{ℕ}
use Rattle.arm.specs.LogicalImmediate.{decode_logical}
use Rattle.arm.specs.MoveWide.{decode, exec, run}
use Rattle.arm.proofs.Worked.{Worked}
use Rattle.forms.specs.Form.{is_of_form}
use Rattle.items.specs.Items.{opc, form_number, other_of, item_of}
use Rattle.items.specs.declared.Item.TheVariants as item
use Rattle.reader.specs.declared.Constant.{Constant}
use Rattle.reader.specs.Found.{leading, joined_of, found_of, joined_on, resumed_of}
use Rattle.archive_pieces.specs.declared.Told.TheVariants.{Joined, Single}
use Rattle.std.specs.Prelude.{None, Some}
use Rattle.archive_pieces.specs.declared.Step.TheVariants.{Tell, Carry}
use Rattle.archive_pieces.specs.Steps.{begun, step_of}

abbrev constant : (value count : ℕ) → Constant
constant value count = record { sf = 1; rd = 0; value = value; count = count }

-- nop; movz x0, #1 | movk x0, #3, lsl #16 | movk x0, #2; nop
pub stepped :
    Worked
    ((step_of (0xD503201F ∷ 0xD2800020 ∷ []) 0 None, Tell (Single (item.Unknown (opc 0xD503201F)) 0) 1)
    ∷ (step_of (0xD2800020 ∷ []) 1 None, Carry (Some (begun (constant 1 1) 1)))  -- it may go on
    ∷ (step_of (0xF2A00060 ∷ []) 2 (Some (begun (constant 1 1) 1)), Carry (Some (begun (constant 0x30001 2) 1)))  -- and goes on
    ∷ (step_of (0xF2800040 ∷ 0xD503201F ∷ []) 3 (Some (begun (constant 0x30001 2) 1)), Tell (Joined (constant 0x30002 3) 1) 1)
    ∷ (step_of (0xD503201F ∷ []) 4 None, Tell (Single (item.Unknown (opc 0xD503201F)) 4) 1)
    ∷ (step_of [] 5 None, Carry None)
    ∷ (step_of (0xD503201F ∷ []) 2 (Some (begun (constant 1 1) 1)), Tell (Joined (constant 1 1) 1) 0)  -- nothing of the next piece belongs to it
    ∷ (step_of [] 2 (Some (begun (constant 1 1) 1)), Carry (Some (begun (constant 1 1) 1)))
    ∷ [])
unfolding step_of found_of item_of decode joined_of leading run exec other_of decode_logical form_number is_of_form resumed_of joined_on
stepped = refl
