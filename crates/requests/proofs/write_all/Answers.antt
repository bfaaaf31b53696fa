-- What stands in the output before a write and after it.
use Rattle.std.proofs.Common.{rules}
use Rattle.requests.proofs.Known.{adds-more, adds-kept}
use Rattle.requests.proofs.write_all.Goals as goal

pub returns-in_err-n : goal.returns-in_err-n
returns-in_err-n g c = adds-kept _ _ _ c.loop-done.invariant.behind c.in_err-n.ensures.bytes

pub returns-then-n-eq0 : goal.returns-then-n-eq0
returns-then-n-eq0 g c = adds-more _ _ _ c.loop-done.invariant.behind (_, c.in_ok-n.ensures.bytes)

pub returns : goal.returns
returns g c = c.loop-done.invariant.behind

pub loop-done-preserved : goal.loop-done-preserved
loop-done-preserved g c =
    record {
      within = search rules;
      behind = adds-more _ _ _ c.loop-done.invariant.behind (_, c.in_ok-n.ensures.bytes);
    }
