-- What was taken and written before a request and by it.
use Rattle.std.proofs.Common.{rules}
use Rattle.requests.proofs.Known.{adds-more, takes-more}
use Rattle.requests.proofs.answer_all.Goals as goal

pub returns-in_err-read_full-clause-input : goal.returns-in_err-read_full-clause-input
returns-in_err-read_full-clause-input g c = takes-more _ _ _ c.loop.invariant.front c.read_full.ensures.front

pub returns-in_err-respond-clause-input : goal.returns-in_err-respond-clause-input
returns-in_err-respond-clause-input g c = takes-more _ _ _ c.loop.invariant.front c.read_full.ensures.front

pub returns-in_err-respond-clause-output : goal.returns-in_err-respond-clause-output
returns-in_err-respond-clause-output g c = adds-more _ _ _ c.loop.invariant.behind c.respond.ensures

pub returns-then-branch-lt72-clause-input : goal.returns-then-branch-lt72-clause-input
returns-then-branch-lt72-clause-input g c = takes-more _ _ _ c.loop.invariant.front c.read_full.ensures.front

pub loop-preserved : goal.loop-preserved
loop-preserved g c =
    record {
      whole = search rules;
      front = takes-more _ _ _ c.loop.invariant.front c.read_full.ensures.front;
      behind = adds-more _ _ _ c.loop.invariant.behind c.respond.ensures;
    }
