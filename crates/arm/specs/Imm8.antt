-- What code computes of 8-bit immediates: the bits that are read, and the sums by weights. None of it is Arm's, and no public entry's contract
-- cites it; the laws tie it to Arm's. Assumes nothing.
use Rattle.std.specs.Prelude.{ℕ, zero, suc, ◌+◌, ◌-◌, ◌*◌, ◌/◌, ◌%◌, ◌^◌}

-- a float's sign, and the seven bits above the fraction's zeros
abbrev pub read_float : ℕ → ℕ → ℕ → ℕ
read_float E F x = x / 2 ^ (E + F) % 2 * 128 + x / 2 ^ (F - 4) % 128

-- the lowest bits of n bytes
unfoldable pub read_mask : ℕ → ℕ → ℕ
read_mask zero x = 0
read_mask (suc n) x = x % 2 + read_mask n (x / 256) * 2

-- a float with k + 4 exponent and u + 4 fraction bits: the sign; the top of the exponent, less the run's lowest weight where bit 6 is set; the rest
abbrev pub float_sum : ℕ → ℕ → ℕ → ℕ
float_sum k u b = b / 128 * 2 ^ (k + u + 8) + (2 ^ (k + u + 7) - b / 64 % 2 * 2 ^ (u + 6)) + b % 64 * 2 ^ u

-- a mask of n bytes
unfoldable pub mask_sum : ℕ → ℕ → ℕ
mask_sum zero b = 0
mask_sum (suc n) b = b % 2 * 255 + mask_sum n (b / 2) * 256
