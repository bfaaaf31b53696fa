-- What a call leaves of the bytes that a reader gives, where those are known, whether it fails or not.
use Rattle.std.specs.Prelude.{ℕ, List}
use Rattle.std.specs.Io.KnownBytes.{Consumes}
use Rattle.std.specs.declared.option.Option.{Option}

-- some known bytes may be gone from the front, and the others stay
abbrev pub OnlyTakes : Option (List ℕ) → Option (List ℕ) → Type 0
OnlyTakes old new = (bs : List ℕ) × Consumes old new bs
