-- Goals of `reader::resume`. Assumes nothing.
use mathlib.Core.Path.{ap, ◌∙◌}
use Rattle.std.specs.Prelude.{Ok}
use Rattle.reader.proofs.Joins.{went_on, resume_is}
use Rattle.reader.proofs.resume.Goals as goal

pub returns : goal.returns
returns c =
    let is = resume_is _ c.args.c c.if-c-gt1.false c.if-c-gt-LAST_REGISTER.false (rw c.top.ensures at c.if-top-c.false) c.if-c-words.false in
    ap Ok (went_on _ c.args.c c.go_on-d.ensures c.from_to.ensures) ∙ is
