-- What the loop of `immediates::read_byte_mask` keeps. Assumes nothing.
use Rattle.std.proofs.Common.{◌≡◌, ◌≤◌}
use Rattle.arm.specs.Imm8.{read_mask}
use Rattle.immediates.proofs.read_byte_mask.Given as goal

abbrev pub invariant-loop-i : goal.invariant-loop-i
invariant-loop-i l = (l.i ≤ 8) × (l.b ≡ read_mask l.i l.val)
