-- A sheet in three runs of numbers. Assumes nothing.
use Rattle.std.specs.Prelude.{List, [], ◌∷◌, ℕ, ◌+◌, length, set, take}
use Rattle.words.specs.Said.{Said}
use Rattle.words.specs.declared.Place.{Place}
use Rattle.labels.specs.declared.Use.{Use}
use Rattle.labels.specs.Order.{answer}
use Rattle.labels.specs.Sheet.{room_for, names, use_refusal}

-- the uses, as far as each of the three runs goes: their labels, positions and formats
abbrev pub uses_of : List ℕ → List ℕ → List ℕ → List Use
uses_of [] ps fs = []
uses_of (l ∷ ls) [] fs = []
uses_of (l ∷ ls) (a ∷ ps) [] = []
uses_of (l ∷ ls) (a ∷ ps) (f ∷ fs) = record { label = l; at = a; format = f } ∷ uses_of ls ps fs

-- the three runs
abbrev pub Runs : Type 0
Runs = List ℕ × (List ℕ × List ℕ)

-- a use of the sheet that they spell: the count after it, and each run
abbrev pub use_runs : List ℕ → List ℕ → Runs → ℕ → Place → Use → Said ℕ × Runs
use_runs ls ws (ms, (ps, fs)) n at u =
    answer (use_refusal ls ws at u (names u.at (take n (uses_of ms ps fs))) (room_for (length (uses_of ms ps fs)) (n + 1)))
    (n + 1) (ms, (ps, fs)) (set ms n u.label, (set ps n u.at, set fs n u.format))
