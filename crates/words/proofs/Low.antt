-- The low bits of a number, up to 64 of them. Assumes nothing.
use Rattle.std.proofs.Common.{◌≡◌, ℕ, ◌*◌, ◌%◌, ◌^◌, ◌<◌, ◌≤◌, min, ◌∙◌, one-mul, arith, shl_exact}

-- one, n places up, is not cut at 64 bits
pub one_up : (n : ℕ) → n < 64 → 1 * 2 ^ n % 2 ^ 64 ≡ 2 ^ n
one_up n h = shl_exact 1 n 64 (omega arith) (omega arith) ∙ one-mul (2 ^ n)

pub least_below : {n : ℕ} → n < 64 → min n 64 ≡ n
least_below h = omega arith

pub least_above : {n : ℕ} → 64 ≤ n → min n 64 ≡ 64
least_above h = omega arith
