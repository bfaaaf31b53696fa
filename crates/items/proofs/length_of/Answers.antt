-- Goals of `items::length_of`. Assumes nothing.
use mathlib.Core.Path.{◌≡◌, sym, ap, ◌∙◌}
use Prim.Native.Nat.{ℕ, ◌+◌, ◌-◌, ◌*◌, ◌%◌, ◌^◌, ◌≤◌, ◌<◌}
use native.Mathlib.Nat.{lt_of_le_of_lt, one-mul}
use native.Mathlib.Omega.{arith}
use lib.Pow.{shl_exact}
use Rattle.arm.specs.BitMasks.{len, esize}
use Rattle.arm.proofs.Fields.{highest_is}
use Rattle.arm.proofs.Trailing.{pow_lt_back}
use Rattle.items.proofs.length_of.Goals as goal

power : (n s k : ℕ) → n ≤ 1 → s ≤ 63 → 2 ^ k ≤ n * 64 + (63 - s) → n * 64 + (63 - s) < 2 * 2 ^ k → 1 * 2 ^ k % 2 ^ 32 ≡ esize n s
unfolding esize len
power n s k hn hs lo hi =
    let low : k < 7 = pow_lt_back k 7 (lt_of_le_of_lt lo (omega arith)) in
    let highest = highest_is 6 k (n * 64 + (63 - s)) (omega arith) lo (omega arith) in
    shl_exact 1 k 32 (omega arith) (omega arith) ∙ one-mul (2 ^ k) ∙ ap (λ (j : ℕ). 2 ^ j) (sym highest)

pub returns : goal.returns
returns c = power _ _ _ c.requires.0 c.requires.1 c.ilog2.ensures.power_le c.ilog2.ensures.next_power_gt
