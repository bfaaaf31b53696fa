use Rattle.std.proofs.Common.{◌≡◌, ◌≤◌, ◌-◌, length}
use Rattle.batches.proofs.Again.{Reached}
use Rattle.batches.proofs.pass.Given as goal

-- whole records were answered, and the run is as long as it was
abbrev pub invariant-loop-i : goal.invariant-loop-i
invariant-loop-i g l = (96 ≤ length l.out) × (length l.out ≡ length l.initial.out) × Reached l.offset l.bytes l.i l.next

abbrev pub decreases-loop-i : goal.decreases-loop-i
decreases-loop-i g l = length l.bytes - l.i
