-- What Arm decodes as a logical immediate is read as that, and a word of a format's form as a displacement. Assumes nothing.
use mathlib.Core.Path.{◌≡◌, sym, ap, ◌∙◌}
use mathlib.Core.Logic.{⊎_elim}
use mathlib.Core.Option.{Option, none, some, none-ne-some}
use Prim.Native.Nat.{ℕ, ◌<◌}
use native.Mathlib.Omega.{arith}
use borrow.Author.Tests.{ne_eqb}
use Rattle.arm.specs.Bits.{bits}
use Rattle.arm.specs.LogicalImmediate.{Logical, decode_logical}
use Rattle.arm.specs.MoveWide.{decode}
use Rattle.forms.specs.Form.{Formed}
use Rattle.wide_moves.specs.Wide.{wide_of}
use Rattle.wide_moves.proofs.Wides.{Passes, wide_cases}
use Rattle.items.specs.declared.Item.TheVariants as item
use Rattle.items.specs.Items.{form_number, displacement_of, displaced_of, logical_word_item, logical_or, other_of, item_of}
use Rattle.items.proofs.Forms.{form_is, form_none}
use Rattle.items.proofs.Cases.{itemed_other, by_item}
use Rattle.std.specs.Prelude.{None}

wide_not : (w : ℕ) → Passes w → decode_logical w ≡ none
unfolding decode_logical
wide_not w p = let g = p.group in simp (ne_eqb (bits 28 23 w) 0b100100 (λ k. omega arith))

pub logical_read : (w : ℕ) (m : Logical) → decode_logical w ≡ some m → item_of w ≡ item.Logical (logical_word_item m)
unfolding other_of
logical_read w m e =
    ⊎_elim
    (λ (n : None ≡ wide_of (decode w)). sym (itemed_other w n) ∙ ap (λ (a : Option Logical). logical_or a (displaced_of w (form_number w))) e)
    (λ (p : Passes w). absurd (none-ne-some _ (sym (wide_not w p) ∙ e)))
    (wide_cases w)

-- a displacement has one form, which no wide move and no logical immediate has
pub displaced_read : (w n : ℕ) → n < 6 → Formed n w → item_of w ≡ item.Displaced (displacement_of w n)
displaced_read w n h f =
    by_item w (λ i. i ≡ item.Displaced (displacement_of w n))
    (λ l. let g = l.group in absurd (omega (arith, form_none w (omega arith), is)))
    (λ k. ap (λ (j : ℕ). item.Displaced (displacement_of w j)) (sym is))
    (λ k. absurd (omega (arith, is)))
    (λ p. let g = p.group in absurd (omega (arith, form_none w (omega arith), is)))
  where
    is : n ≡ form_number w
    is = form_is w n h f
