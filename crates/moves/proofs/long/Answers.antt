-- What `moves::long` does to the list is what is asked. Assumes nothing.
use Rattle.std.proofs.Common.{◌∙◌, leb}
use Rattle.halfwords.specs.Halfwords.{count}
use Rattle.moves.specs.Moves.{long}
use Rattle.moves.specs.Steps.{filler}
use Rattle.moves.proofs.Lists.{long_by}
use Rattle.moves.proofs.long.Goals as goal

pub returns : goal.returns
unfolding long filler
returns c =
    let v = c.args.imm in
    c.lead.ensures
    ∙ long_by c.args.rd.number c.args.rd.general v (leb (count 0xFFFF v) (count 0 v)) c.filler-f.ensures.is c.base.ensures.is c.first.ensures c.rest-q.ensures
