-- Worked values: the words are GNU as's where it has the instruction. Assumes nothing.
use mathlib.Core.Path.{refl}
use mathlib.Core.Bool.{Bool, true, false}
use mathlib.Core.List.{[], ◌∷◌}
use Prim.Native.Nat.{ℕ}
use lib.IntN.{ℤ, pos, negsuc}
use Rattle.arm.specs.Bits.{Replicate}
use Rattle.arm.specs.BitMasks.{highest_set_bit, len, esize, wmask}
use Rattle.arm.specs.LogicalImmediate.{defined, decode_logical}
use Rattle.arm.specs.MoveWide.{decode}
use Rattle.arm.proofs.Worked.{Worked}
use Rattle.forms.specs.Form.{is_of_form}
use Rattle.items.specs.declared.Item.{Item}
use Rattle.items.specs.declared.Item.TheVariants as item
use Rattle.items.specs.Items.{opc, form_number, other_of, item_of}

abbrev wide : (sf opc hw imm16 rd : ℕ) → Item
wide sf opc hw imm16 rd = item.Wide (record { sf = sf; opc = opc; hw = hw; imm16 = imm16; rd = rd })

abbrev logical : (operation width rn rd value n s r length : ℕ) → Bool → Item
logical operation width rn rd value n s r length normal =
    item.Logical (record { operation = operation; width = width; rn = rn; rd = rd; value = value; n = n; s = s; r = r; length = length; normal = normal })

abbrev displaced : ℕ → ℕ → ℤ → Item
displaced n b d = item.Displaced (record { format = n; base = opc b; distance = record { 0 = d } })

abbrev unknown : ℕ → Item
unknown w = item.Unknown (opc w)

pub moves :
    Worked
    ((item_of 0xD2824683, wide 1 2 0 0x1234 3)  -- movz x3, #0x1234
    ∷ (item_of 0x72A00020, wide 0 3 1 1 0)  -- movk w0, #1, lsl #16
    ∷ (item_of 0xD280001F, unknown 0xD280001F)  -- movz xzr, #0
    ∷ (item_of 0x52C00000, unknown 0x52C00000)  -- halfword 2 at size 32
    ∷ (item_of 0xB2800000, unknown 0xB2800000)  -- opc 01
    ∷ [])
unfolding item_of decode other_of decode_logical form_number is_of_form
moves = refl

pub logicals :
    Worked
    ((item_of 0x92400020, logical 0 64 1 0 1 1 0 0 64 true)  -- and x0, x1, #1
    ∷ (item_of 0x720C5CC5, logical 3 32 6 5 0xFFF00FFF 0 23 12 32 true)  -- ands w5, w6, #0xfff00fff
    ∷ (item_of 0xB200F3E7, logical 1 64 31 7 0x5555555555555555 0 60 0 2 true)  -- orr x7, xzr, #0x5555555555555555
    ∷ (item_of 0x9202F020, logical 0 64 1 0 0x5555555555555555 0 60 2 2 false)  -- R is 2 and the element length 2
    ∷ (item_of 0x12400000, unknown 0x12400000)  -- N = 1 at width 32
    ∷ (item_of 0x9200FC00, unknown 0x9200FC00)  -- no element length
    ∷ (item_of 0x9240FC00, unknown 0x9240FC00)  -- all ones
    ∷ [])
unfolding item_of decode other_of decode_logical defined len highest_set_bit esize wmask Replicate form_number is_of_form
logicals = refl

pub displacements :
    Worked
    ((item_of 0x17FFFFFF, displaced 0 0x14000000 (negsuc 3))  -- b.-4
    ∷ (item_of 0x94000001, displaced 0 0x94000000 (pos 4))  -- bl.+4
    ∷ (item_of 0x54FFFFE1, displaced 1 0x54000001 (negsuc 3))  -- b.ne.-4
    ∷ (item_of 0xB5000043, displaced 1 0xB5000003 (pos 8))  -- cbnz x3, .+8
    ∷ (item_of 0x36080020, displaced 2 0x36080000 (pos 4))  -- tbz w0, #1, .+4
    ∷ (item_of 0x70FFFFE0, displaced 3 0x10000000 (negsuc 0))  -- adr x0, .-1
    ∷ (item_of 0xB0000000, displaced 4 0x90000000 (pos 4096))  -- adrp x0, .+4096
    ∷ (item_of 0x58000040, displaced 5 0x58000000 (pos 8))  -- ldr x0, .+8
    ∷ (item_of 0xD8000040, displaced 5 0xD8000000 (pos 8))  -- prfm pldl1keep, .+8
    ∷ (item_of 0x54000010, unknown 0x54000010)  -- bc.eq .
    ∷ (item_of 0xDC000000, unknown 0xDC000000)  -- LDR literal with opc 11 and V 1
    ∷ (item_of 0xD503201F, unknown 0xD503201F)  -- nop
    ∷ [])
unfolding item_of decode other_of decode_logical form_number is_of_form
displacements = refl
