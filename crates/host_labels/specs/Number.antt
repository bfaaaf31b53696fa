-- The one number that each of the entries for labels answers. Assumes nothing.
use Rattle.std.specs.Prelude.{List, ℕ, ℤ, pos}
use Rattle.words.specs.Said.{Said, ok, no}
use Rattle.words.specs.declared.Place.{Place}
use Rattle.host.specs.Number.{told}
use Rattle.labels.specs.declared.Use.{Use}
use Rattle.labels.specs.Sheet.{bind_of, use_record, use_of, finish_of}

-- what is said, by its value
abbrev pub valued : {A : Type 0} → (A → ℤ) → Said A → Said ℤ
valued v (ok x) = ok (v x)
valued v (no n) = no n

-- of binding the value is 0, of a use and of finishing the count after it
abbrev pub host_bound : Said Unit → ℕ
host_bound x = told (valued (λ u. pos 0) x)

abbrev pub host_count : Said ℕ → ℕ
host_count x = told (valued pos x)

-- the number of what is said, and what was lent as it then is
abbrev pub numbering : {A B : Type 0} → (A → ℤ) → Said A × B → ℕ × B
numbering v (x, l) = (told (valued v x), l)

abbrev pub host_bind : List ℕ → List ℕ → ℕ → Place → ℕ × List ℕ
host_bind ls ws l at = numbering (λ u. pos 0) (bind_of ls ws l at)

abbrev pub host_use : List ℕ → List ℕ → List Use → ℕ → ℕ → Place → ℕ → ℕ × List Use
host_use ls ws us n l at f = numbering pos (use_of ls ws us n at (use_record l at f))

abbrev pub host_finish : List ℕ → List ℕ → List Use → ℕ → Place → ℕ × List ℕ
host_finish ls ws us n at = numbering pos (finish_of at ls ws us n)
