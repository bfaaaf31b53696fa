-- What the loop of `archives::pass` keeps. Assumes nothing.
use Rattle.std.proofs.Common.{◌≡◌, ◌+◌, ◌-◌, ◌*◌, ◌≤◌, false, length}
use Rattle.archive_pieces.proofs.Forward.{held}
use Rattle.archives.proofs.Again.{Sofar}
use Rattle.archives.proofs.pass.Given as goal

abbrev pub invariant-loop-next : goal.invariant-loop-next
invariant-loop-next g l =
    record {
      room : 320 ≤ length l.out;
      same : length l.out ≡ length l.initial.out;
      sofar : Sofar l.words l.fn.from.at l.fn.from.carried false l.i l.next.at l.next.carried;
    }

abbrev pub decreases-loop-next : goal.decreases-loop-next
decreases-loop-next g l = 2 * (length l.words - l.i) + held l.next.carried
