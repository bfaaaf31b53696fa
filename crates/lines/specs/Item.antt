-- What a line says, in document 01's terms, and which answer says it. Assumes nothing.
use Rattle.std.specs.Prelude.{List, [], ◌∷◌, ℕ}
use Rattle.words.specs.Answer.{number_of}
use Rattle.words.specs.Listed.{list_of}
use Rattle.lines.specs.declared.Answer.{Answer}
use Rattle.lines.specs.declared.Answer.TheVariants.{Nothing, Words, Numbers, No, BadMark, Cut}

pub data Item : Type 0 where
  words : List ℕ → Item
  numbers : List ℕ → Item
  no : ℕ → Item
  bad_mark : ℕ → Item
  cut_at : ℕ → Item

-- at most one line
abbrev pub items_of : Answer → List Item
items_of Nothing = []
items_of (Words f) = words (list_of f) ∷ []
items_of (Numbers f) = numbers (list_of f) ∷ []
items_of (No r) = no (number_of r) ∷ []
items_of (BadMark o) = bad_mark o ∷ []
items_of (Cut o) = cut_at o ∷ []
