-- The bit test. Assumes nothing.
use Rattle.std.specs.Prelude.{ℕ, ◌/◌, ◌%◌, ◌^◌, Bool, false, cond, ◌==◌, nat_lt}

-- "n of 32 or more is no"
abbrev pub bit_of : ℕ → ℕ → Bool
bit_of value n = cond (nat_lt n 32) (value / 2 ^ n % 2 == 1) false
