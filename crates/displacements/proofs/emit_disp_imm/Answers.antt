-- What is left of `displacements::emit_disp_imm`: a word by value says the same as its list. Assumes nothing.
use Rattle.std.proofs.Common.{ap, ◌∙◌}
use Rattle.words.specs.Listed.{listed}
use Rattle.writers.specs.Put.{put_of}
use Rattle.words.proofs.Answers.{listed_packed}
use Rattle.displacements.specs.Answer.{disp_said}
use Rattle.displacements.proofs.Answers.{short}
use Rattle.displacements.proofs.emit_disp_imm.Goals as goal

pub returns : goal.returns
returns c =
    let a = c.args in
    let d = a.distance.0 in
    let e = ap listed c.disp_word.ensures ∙ listed_packed (disp_said a.format a.base.0 d) (short a.format a.base.0 d) in
    c.put.ensures ∙ ap (put_of a.words.now a.at) e
