-- What a word is, by cases. Assumes nothing.
use mathlib.Core.Path.{◌≡◌, refl, sym, ap, subst, ◌∙◌}
use mathlib.Core.Bool.{Bool, true, false}
use mathlib.Core.Option.{Option, none, some}
use mathlib.Core.Logic.{⊎_elim}
use Prim.Native.Nat.{ℕ, ◌≤◌, ◌<◌}
use native.Mathlib.Omega.{arith}
use borrow.Author.Tests.{ltb-true, ltb-false}
use lib.Dec.{ltb}
use Rattle.arm.specs.LogicalImmediate.{Logical, decode_logical}
use Rattle.arm.specs.MoveWide.{decode}
use Rattle.wide_moves.specs.Wide.{wide_of}
use Rattle.wide_moves.specs.declared.WideMove.{WideMove}
use Rattle.wide_moves.proofs.Wides.{Passes, fields_of, wide_cases, read_move}
use Rattle.items.specs.declared.Displacement.{Displacement}
use Rattle.items.specs.declared.LogicalWord.{LogicalWord}
use Rattle.items.specs.declared.Item.{Item}
use Rattle.items.specs.declared.Item.TheVariants as item
use Rattle.items.specs.Items.{opc, form_number, displacement_of, displaced_of, logical_or, other_of, move_or, item_of}
use Rattle.items.specs.Private.{logical_word_in, logical_in, displacement_in}
use Rattle.items.proofs.Forms.{displaced_or, displaced_is}
use Rattle.items.proofs.Logicals.{IsLogical, logical_at, is_logical, logical_cases}
use Rattle.std.specs.Prelude.{None, Some, Option as RustOption}

module _ (w : ℕ) where
  pub itemed : {m : WideMove} → Some m ≡ wide_of (decode w) → item.Wide m ≡ item_of w
  unfolding item_of
  itemed e = ap (λ (a : (RustOption WideMove)). move_or a (other_of w)) e

  pub itemed_other : None ≡ wide_of (decode w) → other_of w ≡ item_of w
  unfolding item_of
  itemed_other e = ap (λ (a : (RustOption WideMove)). move_or a (other_of w)) e

  -- ---- by what is read of the word

  abbrev word_or : RustOption LogicalWord → Item → Item
  word_or None i = i
  word_or (Some l) i = item.Logical l

  word_is : word_or (logical_in w) (displaced_of w (form_number w)) ≡ other_of w
  unfolding other_of
  word_is = go (decode_logical w)
    where
      go : (x : Option Logical) → word_or (logical_word_in x) (displaced_of w (form_number w)) ≡ logical_or x (displaced_of w (form_number w))
      go none = refl
      go (some m) = refl

  pub itemed_logical : {l : LogicalWord} → None ≡ wide_of (decode w) → Some l ≡ logical_in w → item.Logical l ≡ item_of w
  itemed_logical n e = ap (λ (a : RustOption LogicalWord). word_or a (displaced_of w (form_number w))) e ∙ word_is ∙ itemed_other n

  -- where it is no wide move and no logical immediate
  module _ (n : None ≡ wide_of (decode w)) (m : None ≡ logical_in w) where
    last : displaced_or w (displacement_in w) ≡ item_of w
    last = displaced_is w ∙ ap (λ (a : RustOption LogicalWord). word_or a (displaced_of w (form_number w))) m ∙ word_is ∙ itemed_other n

    pub itemed_displaced : {d : Displacement} → Some d ≡ displacement_in w → item.Displaced d ≡ item_of w
    itemed_displaced e = ap (displaced_or w) e ∙ last

    pub itemed_unknown : None ≡ displacement_in w → item.Unknown (opc w) ≡ item_of w
    itemed_unknown e = ap (displaced_or w) e ∙ last

  -- ---- by cases

  module _ (P : Item → Type 0)
      (logical : IsLogical w → P (item.Logical (logical_at w)))
      (displaced : form_number w < 6 → P (item.Displaced (displacement_of w (form_number w))))
      (unknown : 6 ≤ form_number w → P (item.Unknown (opc w))) where
    displaced_by : (b : Bool) → ltb 5 (form_number w) ≡ b → P (displaced_of w (form_number w))
    displaced_by true e = rw e (unknown (ltb-true 5 (form_number w) e))
    displaced_by false e = rw e (displaced (omega (arith, ltb-false 5 (form_number w) e)))

    by_other : P (other_of w)
    by_other =
        ⊎_elim
        (λ (e : other_of w ≡ displaced_of w (form_number w)). subst P (sym e) (displaced_by (ltb 5 (form_number w)) refl))
        (λ (l : IsLogical w). subst P (sym (is_logical w l)) (logical l))
        (logical_cases w)

    pub by_item : (Passes w → P (item.Wide (fields_of w))) → P (item_of w)
    by_item wide =
        ⊎_elim
        (λ (n : None ≡ wide_of (decode w)). subst P (itemed_other n) by_other)
        (λ (p : Passes w). subst P (itemed (read_move w p)) (wide p))
        (wide_cases w)

  -- what is read as a wide move is one
  pub wide_back : {m : WideMove} → item.Wide m ≡ item_of w → Some m ≡ wide_of (decode w)
  wide_back {m} =
      by_item (λ i. item.Wide m ≡ i → Some m ≡ wide_of (decode w))
      (λ l q. let z : ◌≡◌ {A = ℕ} 0 1 = cc in absurd (omega arith))
      (λ h q. let z : ◌≡◌ {A = ℕ} 0 1 = cc in absurd (omega arith))
      (λ h q. let z : ◌≡◌ {A = ℕ} 0 1 = cc in absurd (omega arith))
      (λ p q. let f : m ≡ fields_of w = cc in ap Some f ∙ read_move w p)
