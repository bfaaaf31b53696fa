-- What stands at a position, by cases. Assumes nothing.
use mathlib.Core.Path.{◌≡◌, refl, sym, ap, ◌∙◌}
use mathlib.Core.List.{List}
use Prim.Native.Nat.{ℕ, ◌+◌, ◌<◌}
use native.Mathlib.Omega.{arith}
use borrow.Author.Tests.{eq-eqb, ne_eqb, lt-ltb, le-ltb}
use lib.ListN.{length, get_or}
use Rattle.std.specs.Prelude.{Ok, Err}
use Rattle.words.specs.declared.Refusal.TheVariants.{NoRoom}
use Rattle.wide_moves.specs.declared.WideMove.{WideMove}
use Rattle.items.specs.declared.Item.{Item}
use Rattle.items.specs.declared.Item.TheVariants as item
use Rattle.items.specs.Items.{item_of}
use Rattle.reader.specs.declared.Found.TheVariants.{Single, End}
use Rattle.reader.specs.Found.{span, joined_of, found_item, found_of}

module _ (ws : List ℕ) (at : ℕ) where
  pub past : length ws < at → Err NoRoom ≡ found_of ws at
  unfolding found_of
  past h = sym (rw (lt-ltb (length ws) at h))

  pub end : length ws ≡ at → Ok End ≡ found_of ws at
  unfolding found_of
  end h = sym (rw (le-ltb (length ws) at (omega arith), eq-eqb (length ws) at h))

  module _ (l : at < length ws) where
    pub inside : found_of ws at ≡ Ok (found_item ws at (item_of (get_or ws at 0)))
    unfolding found_of
    inside = rw (le-ltb (length ws) at (omega arith), ne_eqb (length ws) at (λ q. omega arith))

    pub first : {m : WideMove} → item.Wide m ≡ item_of (get_or ws at 0) → (m.opc ≡ 3 → ⊥) → Ok (joined_of ws at m.sf m.rd) ≡ found_of ws at
    first {m} e q = sym (inside ∙ ap (λ (i : Item). Ok (found_item ws at i)) (sym e) ∙ rw (ne_eqb m.opc 3 q))

    -- an item of one word
    module _ {i : Item} (f : i ≡ item_of (get_or ws at 0)) where
      alone : {j : Item} → i ≡ j → found_item ws at j ≡ Single j (span at (at + 1)) → Ok (Single i (span at (at + 1))) ≡ found_of ws at
      alone e a = sym (inside ∙ ap Ok (ap (found_item ws at) (sym f ∙ e) ∙ a ∙ ap (λ (k : Item). Single k (span at (at + 1))) (sym e)))

      pub lone : {m : WideMove} → i ≡ item.Wide m → m.opc ≡ 3 → Ok (Single i (span at (at + 1))) ≡ found_of ws at
      lone {m} e q = alone e (rw (eq-eqb m.opc 3 q))

    -- what is no wide move
    pub other : (i : Item) → i ≡ item_of (get_or ws at 0) → ((m : WideMove) → i ≡ item.Wide m → ⊥) → Ok (Single i (span at (at + 1))) ≡ found_of ws at
    other (item.Wide m) f n = absurd (n m refl)
    other (item.Logical x) f n = alone f refl refl
    other (item.Displaced x) f n = alone f refl refl
    other (item.Unknown x) f n = alone f refl refl
