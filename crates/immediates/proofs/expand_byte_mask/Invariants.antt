-- What the loop of `immediates::expand_byte_mask` keeps. Assumes nothing.
use Rattle.std.proofs.Common.{◌≡◌, ◌≤◌}
use Rattle.arm.specs.Imm8.{mask_sum}
use Rattle.immediates.proofs.expand_byte_mask.Given as goal

abbrev pub invariant-loop-i : goal.invariant-loop-i
invariant-loop-i l = (l.i ≤ 8) × (l.e ≡ mask_sum l.i l.b)
