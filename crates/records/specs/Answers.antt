-- Which answer by value says a line. Assumes nothing.
use Rattle.std.specs.Prelude.{◌≡◌, [], ◌∷◌, Result, Ok, Err}
use Rattle.words.specs.declared.Refusal.{Refusal}
use Rattle.words.specs.Listed.{list_of, words_of}
use Rattle.lines.specs.Item.{Item, items_of}
use Rattle.lines.specs.declared.Answer.{Answer}
use Rattle.lines.specs.declared.Answer.TheVariants.{Nothing, Words, Numbers, No, BadMark, Cut}

-- at most four numbers, and those that the line does not use are 0
abbrev pub Plain : Answer → Type 0
Plain Nothing = Unit
Plain (Words f) = f ≡ words_of (list_of f)
Plain (Numbers f) = f ≡ words_of (list_of f)
Plain (No r) = Unit
Plain (BadMark o) = Unit
Plain (Cut o) = Unit

-- an answer of one line, of which P holds
pub record OneLine (P : Item → Type 0) (a : Answer) : Type 0 where
  pub item : Item
  pub line : items_of a ≡ item ∷ []
  pub plain : Plain a
  pub says : P item

-- an answer, or that of a refusal
abbrev pub answer_in : Result Answer Refusal → Answer
answer_in (Ok a) = a
answer_in (Err r) = No r
