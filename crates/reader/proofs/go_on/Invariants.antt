-- What the loop of `reader::go_on` keeps. Assumes nothing.
use Rattle.reader.proofs.Joins.{Going}
use Rattle.reader.proofs.go_on.Given as goal

abbrev pub invariant-loop-w : goal.invariant-loop-w
invariant-loop-w l = Going l.words l.fn.c l.c l.w-index
