-- Goals of `reader::go_on`. Assumes nothing.
use mathlib.Core.Path.{sym, ◌∙◌}
use Rattle.reader.proofs.Joins.{kept_small, onward, stopped, at-end}
use Rattle.reader.proofs.go_on.Goals as goal

pub insert-requires : goal.insert-requires
insert-requires c = kept_small c.loop-w.invariant _ c.in-Some.ensures

pub loop-w-preserved : goal.loop-w-preserved
loop-w-preserved c = onward c.loop-w.invariant c.loop-w-test.true c.in-Some.ensures c.insert.ensures

pub returns-after-loop-w : goal.returns-after-loop-w
returns-after-loop-w c = at-end c.loop-w.invariant c.loop-w-test.false c.loop-w.auto.w-index-end

pub returns-in_default : goal.returns-in_default
returns-in_default c = stopped c.loop-w.invariant c.loop-w-test.true (sym c.in_default.is ∙ c.kept.ensures)
