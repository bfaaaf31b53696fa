-- A run of lines more in a turn of the loop. Assumes nothing.
use Rattle.std.proofs.Common.{◌∙◌, arith}
use Rattle.batches.proofs.Again.{reached}
use Rattle.batches.proofs.pass.Goals as goal

pub loop-i-preserved : goal.loop-i-preserved
loop-i-preserved g c =
    let u = c.print-p.ensures.upto in
    (omega (arith, u.same), u.same ∙ c.loop-i.invariant.1, reached c.loop-i.invariant.2 u)
