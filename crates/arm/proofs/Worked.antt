-- A table of worked values: what is computed beside what it is. Assumes nothing.
use mathlib.Core.Path.{◌≡◌}
use mathlib.Core.List.{List, [], ◌∷◌}

module _ {A : Type 0} where
  abbrev lefts : List (A × A) → List A
  lefts [] = []
  lefts ((a, b) ∷ ps) = a ∷ lefts ps

  abbrev rights : List (A × A) → List A
  rights [] = []
  rights ((a, b) ∷ ps) = b ∷ rights ps

  -- each left side is its right side; antt computes both
  abbrev pub Worked : List (A × A) → Type 0
  Worked ps = lefts ps ≡ rights ps
