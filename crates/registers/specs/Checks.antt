-- Register checks and the condition field. Assumes nothing.
use Rattle.std.specs.Prelude.{ℕ, ◌+◌, ◌%◌, Bool, ◌||◌, ◌==◌, nat_lt}

-- "below 31 or equal to the named high id"
abbrev pub gp_ok : ℕ → ℕ → Bool
gp_ok id hi = nat_lt id 31 || id == hi

-- "vectors: below 32"
abbrev pub vec_ok : ℕ → Bool
vec_ok id = nat_lt id 32

-- "(cond − 2) mod 16 for every u32; 0 gives 14": 14 more is 2 less, modulo 16
abbrev pub cond_field : ℕ → ℕ
cond_field cond = (cond + 14) % 16
