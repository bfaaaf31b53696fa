-- The answers of `immediates::read_byte_mask`. Assumes nothing.
use mathlib.Core.Path.{◌≡◌, refl, ap, ◌∙◌}
use Prim.Native.Nat.{ℕ, ◌+◌, ◌*◌, ◌/◌, ◌%◌, ◌^◌, ◌<◌}
use native.Mathlib.Nat.{lt_of_lt_of_le}
use native.Mathlib.Omega.{arith}
use lib.Pow.{pow_mono, shl_exact}
use Rattle.arm.specs.Imm8.{read_mask}
use Rattle.arm.proofs.Expand.{read_parts, read_few}
use Rattle.immediates.proofs.read_byte_mask.Goals as goal

-- one more byte
one_more : (i x : ℕ) → i < 8 → read_mask i x + x / 2 ^ (8 * i) % 2 * 2 ^ i % 2 ^ 64 ≡ read_mask (i + 1) x
unfolding read_mask
one_more i x h =
    let kept = shl_exact {a = x / 2 ^ (8 * i) % 2} 1 i 64 (omega arith) (omega (arith, h)) in
    ap (λ (n : ℕ). read_mask i x + n) kept ∙ omega (arith, read_parts 1 i x)

pub loop-i-init : goal.loop-i-init
unfolding read_mask
loop-i-init c = (omega arith, refl)

pub overflow_add-b : goal.overflow_add-b
overflow_add-b c =
    let x = c.args.val in
    let i = c.loop-i.i in
    rw (c.loop-i.invariant.1, one_more i x c.loop-i-test.true)
    (record { fits = lt_of_lt_of_le (read_few (i + 1) x) (pow_mono {j = 64} (omega (arith, c.loop-i-test.true))) })

pub loop-i-preserved : goal.loop-i-preserved
loop-i-preserved c = (omega (arith, c.loop-i-test.true), rw c.loop-i.invariant.1 (one_more c.loop-i.i c.args.val c.loop-i-test.true))

pub returns : goal.returns
returns c = let end : c.loop-i.i ≡ 8 = omega (arith, c.loop-i.invariant.0, c.loop-i-test.false) in rw (← end) c.loop-i.invariant.1
