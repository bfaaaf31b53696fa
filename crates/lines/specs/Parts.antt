-- A line by its parts: texts, numbers in decimal and words in hex; and what putting them leaves. Assumes nothing.
use Rattle.std.specs.Prelude.{cond, List, [], ◌∷◌, ◌++◌, ℕ, ◌+◌, leb, length}
use Rattle.std.proofs.lemmas.List.Edits.{sets}
use Rattle.lines.specs.Text.{hex8, decimal}

pub data Part : Type 0 where
  text : List ℕ → Part
  number : ℕ → Part
  word : ℕ → Part

abbrev pub bytes_of : Part → List ℕ
bytes_of (text t) = t
bytes_of (number n) = decimal n
bytes_of (word w) = hex8 w

-- how many bytes a part of this kind has at most
abbrev pub most_of : Part → ℕ
most_of (text t) = length t
most_of (number n) = 20
most_of (word w) = 8

-- the place past the part, and the run with the part from the place on; where fewer bytes are left than it may have, the same place and run
unfoldable pub part_at : List ℕ → ℕ → Part → ℕ × List ℕ
part_at o at p = cond (leb (at + most_of p) (length o)) (at + length (bytes_of p), sets o at (bytes_of p)) (at, o)

-- part after part
unfoldable pub parts_at : ℕ × List ℕ → List Part → ℕ × List ℕ
parts_at q [] = q
parts_at q (p ∷ ps) = parts_at (part_at q.1 q.0 p) ps

abbrev pub bytes_of_all : List Part → List ℕ
bytes_of_all [] = []
bytes_of_all (p ∷ ps) = bytes_of p ++ bytes_of_all ps

abbrev pub most_of_all : List Part → ℕ
most_of_all [] = 0
most_of_all (p ∷ ps) = most_of p + most_of_all ps
