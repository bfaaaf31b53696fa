-- What the loops of `archives::print` keep. Assumes nothing.
use Rattle.std.proofs.Common.{◌+◌, ◌-◌, ◌*◌, false, length}
use Rattle.archive_pieces.proofs.Forward.{held}
use Rattle.archives.specs.Printed.{Upto}
use Rattle.archives.proofs.print.Given as goal

abbrev pub invariant-loop-out : goal.invariant-loop-out
invariant-loop-out l = Upto l.words l.initial.next.at l.initial.next.carried l.initial.out false l.i l.next.at l.next.carried l.p l.out

abbrev pub decreases-loop-out : goal.decreases-loop-out
decreases-loop-out l = 2 * (length l.words - l.i) + held l.next.carried
