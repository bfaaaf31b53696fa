-- Worked values. Assumes nothing.
use mathlib.Core.Path.{refl}
use mathlib.Core.List.{[], ◌∷◌}
use Prim.Native.Nat.{◌*◌}
use Rattle.arm.specs.BitMasks.{highest_set_bit, len, esize}
use Rattle.arm.specs.LogicalImmediate.{defined, decode_logical}
use Rattle.arm.specs.MoveWide.{decode}
use Rattle.arm.proofs.Worked.{Worked}
use Rattle.forms.specs.Form.{is_of_form}
use Rattle.items.specs.Items.{form_number, other_of, item_of}
use Rattle.item_words.specs.Again.{rewritten}
use Rattle.host_rewrites.specs.Number.{host_rewrite}

pub rewrite :
    Worked
    ((host_rewrite 0xD2800020, 0xD2800020 * 256)
    ∷ (host_rewrite 0x92401C20, 0x92401C20 * 256)
    ∷ (host_rewrite 0x9202F020, 0x9200F020 * 256)  -- R 2 at the element length 2 is 0
    ∷ (host_rewrite 0x17FFFFFF, 0x17FFFFFF * 256)
    ∷ (host_rewrite 0xD503201F, 0xD503201F * 256)
    ∷ [])
unfolding rewritten item_of decode other_of decode_logical defined len highest_set_bit esize form_number is_of_form
rewrite = refl
