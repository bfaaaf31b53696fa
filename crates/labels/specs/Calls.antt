-- Binds and uses on one run of words, one after the other, all of them accepted. Assumes nothing.
use Rattle.std.specs.Prelude.{◌≡◌, List, [], ◌∷◌, ℕ}
use Rattle.words.specs.Said.{ok}
use Rattle.words.specs.declared.Place.{Place}
use Rattle.labels.specs.declared.Use.{Use}
use Rattle.labels.specs.Sheet.{bind_of, use_record, use_of}

-- a label is bound to a place, or used by the word at a place, at a format
pub data Call : Type 0 where
  bind : ℕ → Place → Call
  «use» : ℕ → Place → ℕ → Call

-- the table, the sheet and its count
pub record Book : Type 0 where
  pub labels : List ℕ
  pub uses : List Use
  pub count : ℕ

-- the calls are accepted, and lead from one book to another
abbrev pub Goes : List ℕ → List Call → Book → Book → Type 0
Goes ws [] s t = s ≡ t
Goes ws (bind l at ∷ cs) s t = (ls : List ℕ) × ((bind_of s.labels ws l at ≡ (ok tt, ls)) × Goes ws cs (record { labels = ls; uses = s.uses; count = s.count }) t)
Goes ws («use» l at f ∷ cs) s t =
    (n : ℕ) × ((us : List Use) × ((use_of s.labels ws s.uses s.count at (use_record l at f) ≡ (ok n, us)) × Goes ws cs (record { labels = s.labels; uses = us; count = n }) t))
