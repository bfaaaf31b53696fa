-- Arm's bit strings, as numbers: x<hi:lo>, a : b, Ones, Replicate, ROR and SignExtend (shared pseudocode). Assumes nothing.
use Rattle.std.specs.Prelude.{cond, ℕ, zero, suc, ◌+◌, ◌-◌, ◌*◌, ◌/◌, ◌%◌, ◌^◌, ltb}

-- x<hi:lo>
abbrev pub bits : ℕ → ℕ → ℕ → ℕ
bits hi lo x = x / 2 ^ lo % 2 ^ (suc hi - lo)

-- a : b, where b has k bits
abbrev pub join : ℕ → ℕ → ℕ → ℕ
join k a b = a * 2 ^ k + b

-- Ones(k)
abbrev pub Ones : ℕ → ℕ
Ones k = 2 ^ k - 1

-- Replicate(x, m): m copies of the e bits x
unfoldable pub Replicate : ℕ → ℕ → ℕ → ℕ
Replicate e x zero = 0
Replicate e x (suc m) = x + Replicate e x m * 2 ^ e

-- ROR(x, r), of a number of e bits, by r up to e
abbrev pub ROR : ℕ → ℕ → ℕ → ℕ
ROR e x r = x / 2 ^ r + x % 2 ^ r * 2 ^ (e - r)

-- SignExtend(x, 64), of m bits: above them stand copies of the top one
abbrev pub SignExtend : ℕ → ℕ → ℕ
SignExtend m x = cond (ltb x (2 ^ (m - 1))) x (x + (2 ^ 64 - 2 ^ m))
