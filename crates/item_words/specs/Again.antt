-- An item, "written again from its own fields". Assumes nothing.
use Rattle.std.specs.Prelude.{List, [], ◌∷◌, ℕ, ◌+◌, ◌-◌, ◌*◌, ◌%◌, ◌^◌}
use Rattle.arm.specs.Bits.{bits}
use Rattle.words.specs.Said.{Said, ok}
use Rattle.logical_words.specs.Word.{ForWord}
use Rattle.displacements.specs.Answer.{disp_said}
use Rattle.wide_moves.specs.Wide.{wide_said}
use Rattle.items.specs.Items.{item_of}
use Rattle.items.specs.declared.Item.{Item}
use Rattle.items.specs.declared.Item.TheVariants as item

-- P x, where x is what is said of an item's word: a wide move by its fields, a logical immediate by module 3 from its value, a displacement by module 7
-- from its base and distance; an unknown word is itself
abbrev pub ForItem : Item → (Said (List ℕ) → Type 0) → Type 0
ForItem (item.Wide m) P = P (wide_said m)
ForItem (item.Logical l) P = ForWord l.operation l.value l.width l.rn l.rd P
ForItem (item.Displaced d) P = P (disp_said d.format d.base.0 d.distance.0)
ForItem (item.Unknown w) P = P (ok (w.0 ∷ []))

-- ---- "is the same word, except logical fields with a large R"

-- a logical word with another R
abbrev pub turned : ℕ → ℕ → ℕ
turned w r = w - bits 21 16 w * 2 ^ 16 + r * 2 ^ 16

-- the word that an item of w is written as: with R reduced by the element length
abbrev pub again_of : ℕ → Item → ℕ
again_of w (item.Wide m) = w
again_of w (item.Logical l) = turned w (l.r % l.length)
again_of w (item.Displaced d) = w
again_of w (item.Unknown v) = w

unfoldable pub rewritten : ℕ → ℕ
rewritten w = again_of w (item_of w)
