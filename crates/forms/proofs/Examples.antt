-- Worked values: words of each form, and of none. Assumes nothing.
use mathlib.Core.Path.{refl}
use mathlib.Core.Bool.{true, false}
use mathlib.Core.List.{[], ◌∷◌}
use Rattle.arm.proofs.Worked.{Worked}
use Rattle.words.specs.Said.{ok, no}
use Rattle.forms.specs.Form.{is_of_form, form_said}

pub forms_right :
    Worked
    ((form_said 0 0x17FFFFFF, ok true)  -- whatever the field holds
    ∷ (form_said 1 0x17FFFFFF, ok false)
    ∷ (form_said 1 0x54FFFFCF, ok true)
    ∷ (form_said 1 0xB5FFFFFE, ok true)
    ∷ (form_said 5 0x9C00009F, ok true)
    ∷ (form_said 5 0xDC00009F, ok false)
    ∷ (form_said 6 0x14000000, no 7)
    ∷ [])
unfolding is_of_form
forms_right = refl
