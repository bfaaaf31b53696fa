-- Up to four words by value, and their list. Assumes nothing.
use Rattle.std.specs.Prelude.{ℕ, List, [], ◌∷◌, length, take, slice_index}
use Rattle.words.specs.Said.{Said, ok, no}
use Rattle.words.specs.declared.Words.{Words}

-- the words of a value: the first ones, as many as the count says
abbrev pub list_of : Words → List ℕ
list_of f = take f.count (f.a ∷ f.b ∷ f.c ∷ f.d ∷ [])

-- the value of at most four words; the numbers that are not used are 0
abbrev pub words_of : List ℕ → Words
words_of ws = record { count = length ws; a = slice_index ws 0; b = slice_index ws 1; c = slice_index ws 2; d = slice_index ws 3 }

abbrev pub listed : Said Words → Said (List ℕ)
listed (ok f) = ok (list_of f)
listed (no n) = no n

abbrev pub packed : Said (List ℕ) → Said Words
packed (ok ws) = ok (words_of ws)
packed (no n) = no n
