-- The answers of `immediates::expand_byte_mask`. Assumes nothing.
use mathlib.Core.Path.{◌≡◌, refl, ap, ◌∙◌}
use Prim.Native.Nat.{ℕ, ◌+◌, ◌*◌, ◌/◌, ◌%◌, ◌^◌, ◌<◌}
use native.Mathlib.Nat.{lt_of_lt_of_le}
use native.Mathlib.Omega.{arith}
use lib.Pow.{pow_mono, shl_exact}
use Rattle.arm.specs.Imm8.{mask_sum}
use Rattle.arm.proofs.Expand.{sum_parts, sum_few}
use Rattle.immediates.proofs.expand_byte_mask.Goals as goal

-- one more byte
one_more : (i x : ℕ) → i < 8 → mask_sum i x + x / 2 ^ i % 2 * 255 * 2 ^ (8 * i) % 2 ^ 64 ≡ mask_sum (i + 1) x
unfolding mask_sum
one_more i x h =
    let kept = shl_exact {a = x / 2 ^ i % 2 * 255} 8 (8 * i) 64 (omega arith) (omega (arith, h)) in
    ap (λ (n : ℕ). mask_sum i x + n) kept ∙ omega (arith, sum_parts 1 i x)

pub loop-i-init : goal.loop-i-init
unfolding mask_sum
loop-i-init c = (omega arith, refl)

pub overflow_add-e : goal.overflow_add-e
overflow_add-e c =
    let x = c.args.b in
    let i = c.loop-i.i in
    rw (c.loop-i.invariant.1, one_more i x c.loop-i-test.true)
    (record { fits = lt_of_lt_of_le (sum_few (i + 1) x) (pow_mono {j = 64} (omega (arith, c.loop-i-test.true))) })

pub loop-i-preserved : goal.loop-i-preserved
loop-i-preserved c = (omega (arith, c.loop-i-test.true), rw c.loop-i.invariant.1 (one_more c.loop-i.i c.args.b c.loop-i-test.true))

pub returns : goal.returns
returns c = let end : c.loop-i.i ≡ 8 = omega (arith, c.loop-i.invariant.0, c.loop-i-test.false) in rw (← end) c.loop-i.invariant.1
