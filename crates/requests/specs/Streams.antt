-- What a call leaves of the bytes that a writer holds, where those are known, whether it fails or not.
use Rattle.std.specs.Prelude.{ℕ, List}
use Rattle.std.specs.Io.KnownBytes.{Appends}
use Rattle.std.specs.declared.option.Option.{Option}

-- known bytes stay, and some may stand behind them
abbrev pub OnlyAdds : Option (List ℕ) → Option (List ℕ) → Type 0
OnlyAdds old new = (bs : List ℕ) × Appends old new bs
