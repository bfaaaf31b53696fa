-- What only the contracts of private functions cite. Assumes nothing.
use Rattle.std.specs.Prelude.{◌+◌, ◌≤◌}
use Rattle.words.specs.Said.{Said, ok, no}
use Rattle.words.specs.Place.{pos_of}
use Rattle.words.specs.declared.Place.{Place}

-- no more than four words past the position
abbrev pub Near : Place → Said Place → Type 0
Near at (ok p) = (pos_of at ≤ pos_of p) × (pos_of p ≤ pos_of at + 4)
Near at (no n) = Unit
