-- Worked values. Assumes nothing.
use mathlib.Core.Path.{refl}
use mathlib.Core.List.{List, [], ◌∷◌}
use Prim.Native.Nat.{ℕ, ◌*◌}
use Rattle.arm.specs.BitMasks.{highest_set_bit, len, esize, wmask}
use Rattle.arm.specs.LogicalImmediate.{defined, decode_logical}
use Rattle.arm.specs.MoveWide.{decode, exec, run}
use Rattle.arm.proofs.Worked.{Worked}
use Rattle.forms.specs.Form.{is_of_form}
use Rattle.items.specs.Items.{form_number, other_of, item_of}
use Rattle.reader.specs.Found.{leading, joined_of, found_of}
use Rattle.host_reader.specs.Numbers.{host_read}

-- movz x0, #1; movk x0, #2; movk x0, #3, lsl #16; movk w1, #4, lsl #16; and x0, x1, #0xff; orr w3, w2, #0x80808080 with R 9; b.-4; adrp x1, .+8192; nop
abbrev run₁ : List ℕ
run₁ = 0xD2800020 ∷ 0xF2800040 ∷ 0xF2A00060 ∷ 0x72A00081 ∷ 0x92401C20 ∷ 0x3209C043 ∷ 0x17FFFFFF ∷ 0xD0000001 ∷ 0xD503201F ∷ []

-- twelve lent numbers, and ten
abbrev twelve : List ℕ
twelve = 7 ∷ 7 ∷ 7 ∷ 7 ∷ 7 ∷ 7 ∷ 7 ∷ 7 ∷ 7 ∷ 7 ∷ 7 ∷ 7 ∷ []

abbrev ten : List ℕ
ten = 7 ∷ 7 ∷ 7 ∷ 7 ∷ 7 ∷ 7 ∷ 7 ∷ 7 ∷ 7 ∷ 7 ∷ []

pub read :
    Worked
    ((host_read run₁ 0 twelve, (1 * 256, 3 ∷ 0 ∷ 64 ∷ 0x30002 ∷ 3 ∷ 7 ∷ 7 ∷ 7 ∷ 7 ∷ 7 ∷ 7 ∷ 7 ∷ []))
    ∷ (host_read run₁ 3 twelve, (2 * 256, 4 ∷ 1 ∷ 32 ∷ 4 ∷ 1 ∷ 7 ∷ 7 ∷ 7 ∷ 7 ∷ 7 ∷ 7 ∷ 7 ∷ []))
    ∷ (host_read run₁ 4 twelve, (3 * 256, 5 ∷ 0 ∷ 64 ∷ 1 ∷ 0 ∷ 0xFF ∷ 1 ∷ 7 ∷ 0 ∷ 64 ∷ 1 ∷ 7 ∷ []))
    ∷ (host_read run₁ 5 twelve, (3 * 256, 6 ∷ 1 ∷ 32 ∷ 2 ∷ 3 ∷ 0x80808080 ∷ 0 ∷ 48 ∷ 9 ∷ 8 ∷ 0 ∷ 7 ∷ []))  -- not normal
    ∷ (host_read run₁ 6 twelve, (4 * 256, 7 ∷ 0 ∷ 0x14000000 ∷ 0xFFFFFFFFFFFFFFFC ∷ 7 ∷ 7 ∷ 7 ∷ 7 ∷ 7 ∷ 7 ∷ 7 ∷ 7 ∷ []))
    ∷ (host_read run₁ 7 twelve, (4 * 256, 8 ∷ 4 ∷ 0x90000001 ∷ 0x2000 ∷ 7 ∷ 7 ∷ 7 ∷ 7 ∷ 7 ∷ 7 ∷ 7 ∷ 7 ∷ []))
    ∷ (host_read run₁ 8 twelve, (5 * 256, 9 ∷ 0xD503201F ∷ 8 ∷ 7 ∷ 7 ∷ 7 ∷ 7 ∷ 7 ∷ 7 ∷ 7 ∷ 7 ∷ 7 ∷ []))
    ∷ (host_read run₁ 9 twelve, (0, twelve))  -- the end
    ∷ (host_read run₁ 10 twelve, (8, twelve))  -- past it
    ∷ (host_read run₁ 8 ten, (8, ten))  -- a number too few
    ∷ [])
unfolding found_of item_of decode joined_of leading run exec other_of decode_logical defined len highest_set_bit esize form_number is_of_form wmask
read = refl
