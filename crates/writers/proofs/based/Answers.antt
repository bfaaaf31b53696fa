-- The base that `writers::based` tests. Assumes nothing.
use Rattle.std.proofs.Common.{sym}
use Rattle.words.specs.Listed.{listed}
use Rattle.writers.proofs.Writes.{based_yes, based_no}
use Rattle.words.specs.Answer.{said}
use Rattle.writers.proofs.based.Goals as goal

pub returns-then-at-eq0 : goal.returns-then-at-eq0
returns-then-at-eq0 c = sym (based_yes c.args.at (listed (said c.args.m)) c.if-at-eq0.true)

pub returns-else-at-eq0 : goal.returns-else-at-eq0
returns-else-at-eq0 c = sym (based_no c.args.at (listed (said c.args.m)) c.if-at-eq0.false)
