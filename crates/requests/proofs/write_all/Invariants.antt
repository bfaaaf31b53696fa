-- Each turn leaves less to write.
use Rattle.std.proofs.Common.{length, ◌-◌, ◌≤◌}
use Rattle.requests.specs.Streams.{OnlyAdds}
use Rattle.requests.proofs.write_all.Given as goal

abbrev pub invariant-loop-done : goal.invariant-loop-done
invariant-loop-done g l =
    record {
      within : l.done ≤ length l.buf;
      behind : OnlyAdds (g.W.Write.contents l.initial.output) (g.W.Write.contents l.output);
    }

abbrev pub decreases-loop-done : goal.decreases-loop-done
decreases-loop-done g l = length l.buf - l.done
