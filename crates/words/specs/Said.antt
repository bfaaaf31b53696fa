-- What an entry says. Assumes nothing.
use Rattle.std.specs.Prelude.{ℕ}

-- values, or the number of a refusal
pub data Said (A : Type 0) : Type 0 where
  ok : A → Said A
  no : ℕ → Said A
