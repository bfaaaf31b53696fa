-- The lines of the records before stand in the run.
use Rattle.std.proofs.Common.{◌≡◌, ◌*◌, false}
use Rattle.batches.specs.Printed.{Upto}
use Rattle.batches.proofs.print.Given as goal

abbrev pub invariant-loop-record : goal.invariant-loop-record
invariant-loop-record l =
    record {
      upto : Upto l.offset l.bytes l.initial.out l.p.taken l.p.written l.p.next false l.out;
      taken : l.p.taken ≡ 12 * l.record-index;
      goes : l.p.ended ≡ false;
    }
