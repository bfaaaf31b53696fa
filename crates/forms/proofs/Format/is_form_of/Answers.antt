-- What is left of `forms::Format::is_form_of`: what its tests say together. Assumes nothing.
use Rattle.std.proofs.Common.{◌≡◌, ℕ, ◌^◌, ◌<◌, Bool, true, false, eqb, ap, ◌∙◌, rules}
use Rattle.std.specs.Int.Bits.{bit_and}
use Rattle.forms.specs.declared.Fixed.{Fixed}
use Rattle.forms.specs.Format.{format_number}
use Rattle.forms.specs.Form.{is_of_form}
use Rattle.forms.specs.Private.{fixed_of}
use Rattle.forms.proofs.Instructions.{masked, by_masks}
use Rattle.forms.proofs.Format.is_form_of.Goals as goal

-- of the row f of the format n, and a word w
module _ (f : Fixed) (n w : ℕ) (h : w < 2 ^ 32) (e : f ≡ fixed_of n) where
  -- the row's masks test the fixed bits of the format asked for
  form : masked f w ≡ is_of_form n w
  form = ap (λ (g : Fixed). masked g w) e ∙ by_masks w h n

  -- x of the code's tests so far: no literal that Arm leaves unallocated, the first mask, the second
  module _ (x : Bool) (ex : x ≡ eqb (bit_and w 0xFF000000) 0xDC000000) where
    unallocated : x ≡ true → false ≡ is_of_form n w
    unallocated t = rw (← ex, t) at form

    module _ (y : Bool) (ey : y ≡ eqb (bit_and w f.mask) f.bits) where
      by_first : x ≡ false → y ≡ true → y ≡ is_of_form n w
      by_first t u = u ∙ rw (← ex, t, ← ey, u) at form

      by_second : (z : Bool) → z ≡ eqb (bit_and w f.mask2) f.bits2 → x ≡ false → y ≡ false → z ≡ is_of_form n w
      by_second z ez t u = ez ∙ rw (← ex, t, ← ey, u) at form

pub returns-then-under : goal.returns-then-under
returns-then-under c =
    let a = c.args in
    unallocated c.fixed_of-f.result (format_number a.self) a.w.0 (search rules) c.fixed_of-f.ensures c.under.result c.under.ensures c.if-under.true

pub returns-then-under-2 : goal.returns-then-under-2
returns-then-under-2 c =
    let a = c.args in
    by_first c.fixed_of-f.result (format_number a.self) a.w.0 (search rules) c.fixed_of-f.ensures c.under.result c.under.ensures c.under-2.result c.under-2.ensures c.if-under.false c.if-under-2.true

pub returns-else-under-2 : goal.returns-else-under-2
returns-else-under-2 c =
    let a = c.args in
    by_second c.fixed_of-f.result (format_number a.self) a.w.0 (search rules) c.fixed_of-f.ensures c.under.result c.under.ensures c.under-2.result c.under-2.ensures c.under-else-under-2.result c.under-else-under-2.ensures c.if-under.false c.if-under-2.false
