-- How far the records of a block were printed. Assumes nothing.
use Rattle.std.specs.Prelude.{◌≡◌, ℕ, ◌*◌, ◌≤◌, Bool, false, List, [], ◌∷◌, length}
use Rattle.std.proofs.lemmas.List.Edits.{sets}
use Rattle.lines.specs.Item.{Item}
use Rattle.lines.specs.Text.{texts_of}
use Rattle.records.specs.Inputs.{offset_after, ends_at, Told}

-- whether an answer's line is the end
abbrev pub ends_of : List Item → Bool
ends_of [] = false
ends_of (i ∷ is) = ends_at i

-- `taken` bytes of a block bs, which stands at an offset, were answered: the lines that its first records say stand at the start of the run o,
-- which is then o'; `next` is the offset behind them
pub record Upto (offset : ℕ) (bs o : List ℕ) (taken written next : ℕ) (ended : Bool) (o' : List ℕ) : Type 0 where
  pub count : ℕ
  pub lines : List Item
  pub told : Told offset bs count ended lines
  pub records : taken ≡ 12 * count
  pub within : taken ≤ length bs
  pub behind : next ≡ offset_after offset count
  pub text : written ≡ length (texts_of lines)
  pub holds : o' ≡ sets o 0 (texts_of lines)
  pub same : length o' ≡ length o
  pub room : written ≤ length o
