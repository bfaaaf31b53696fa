-- The items of a whole archive, and what is told of one that comes in pieces. Assumes nothing.
use Rattle.std.specs.Prelude.{◌≡◌, List, [], ◌∷◌, ◌++◌, ℕ, ◌+◌, ◌%◌, ◌^◌, length, drop, None, Some, Ok}
use Rattle.items.specs.declared.Item.{Item}
use Rattle.reader.specs.declared.Constant.{Constant}
use Rattle.reader.specs.declared.Span.{Span}
use Rattle.reader.specs.declared.Found.TheVariants as found
use Rattle.reader.specs.Found.{found_of}
use Rattle.archive_pieces.specs.declared.Told.{Told}
use Rattle.archive_pieces.specs.declared.Told.TheVariants.{Joined, Single}
use Rattle.archive_pieces.specs.declared.Begun.{Begun}
use Rattle.archive_pieces.specs.declared.Step.TheVariants.{Tell, Carry}
use Rattle.archive_pieces.specs.Steps.{Carried, step_of}

-- the items of a whole archive from a position on, by reading on from each one's end
pub data Items (ws : List ℕ) : ℕ → List Told → Type 0 where
  end : {at : ℕ} → found_of ws at ≡ Ok found.End → Items ws at []
  joined : {at : ℕ} {c : Constant} {s : Span} {ts : List Told} → found_of ws at ≡ Ok (found.Joined c s) → Items ws s.next.0 ts → Items ws at (Joined c at ∷ ts)
  single : {at : ℕ} {i : Item} {s : Span} {ts : List Told} → found_of ws at ≡ Ok (found.Single i s) → Items ws s.next.0 ts → Items ws at (Single i at ∷ ts)

-- the position so many words on, a 64-bit number
abbrev pub on_by : ℕ → ℕ → ℕ
on_by at n = (at + n) % 2 ^ 64

-- what is told of pieces, the first of which stands at a position, by step after step; a constant that is carried past the last piece is told there
pub data Pieces : Carried → ℕ → List (List ℕ) → List Told → Type 0 where
  none : {at : ℕ} → Pieces None at [] []
  last : {at : ℕ} {b : Begun} → Pieces (Some b) at [] (Joined b.constant b.at ∷ [])
  tells : {k : Carried} {at n : ℕ} {ws : List ℕ} {ps : List (List ℕ)} {t : Told} {ts : List Told} → step_of ws at k ≡ Tell t n
      → Pieces None (on_by at n) (drop n ws ∷ ps) ts → Pieces k at (ws ∷ ps) (t ∷ ts)
  carries : {k l : Carried} {at : ℕ} {ws : List ℕ} {ps : List (List ℕ)} {ts : List Told} → step_of ws at k ≡ Carry l
      → Pieces l (on_by at (length ws)) ps ts → Pieces k at (ws ∷ ps) ts

-- the words of the pieces
abbrev pub joined_up : List (List ℕ) → List ℕ
joined_up [] = []
joined_up (ws ∷ ps) = ws ++ joined_up ps
