-- Worked values: what words are written again as. Assumes nothing.
use mathlib.Core.Path.{refl}
use mathlib.Core.List.{[], ◌∷◌}
use Rattle.arm.specs.BitMasks.{highest_set_bit, len, esize}
use Rattle.arm.specs.LogicalImmediate.{defined, decode_logical}
use Rattle.arm.specs.MoveWide.{decode}
use Rattle.arm.proofs.Worked.{Worked}
use Rattle.forms.specs.Form.{is_of_form}
use Rattle.items.specs.Items.{form_number, other_of, item_of}
use Rattle.item_words.specs.Again.{rewritten}

pub again :
    Worked
    ((rewritten 0xD2824683, 0xD2824683)  -- movz x3, #0x1234
    ∷ (rewritten 0x92400020, 0x92400020)  -- and x0, x1, #1
    ∷ (rewritten 0x9202F020, 0x9200F020)  -- R 2 at the element length 2 is 0
    ∷ (rewritten 0x1239CC00, 0x1201CC00)  -- R 57 at the element length 8 is 1
    ∷ (rewritten 0x17FFFFFF, 0x17FFFFFF)  -- b.-4
    ∷ (rewritten 0xD503201F, 0xD503201F)  -- nop
    ∷ [])
unfolding rewritten item_of decode other_of decode_logical defined len highest_set_bit esize form_number is_of_form
again = refl
