-- `label_uses::base_test` reads module 7's word at distance 0, which tests the base and nothing else. Assumes nothing.
use Rattle.std.proofs.Common.{ap, ◌∙◌, arith}
use Rattle.std.proofs.lemmas.Grind.{common_steps}
use Rattle.labels.specs.Sheet.{number_in}
use Rattle.labels.proofs.Decides.{base_said}
use Rattle.label_uses.proofs.base_test.Goals as goal

pub returns-in_err-disp_word : goal.returns-in_err-disp_word
returns-in_err-disp_word c =
    let e = ap number_in c.disp_word.ensures ∙ base_said _ _ c.requires in
    grind (arith, common_steps, e)

pub returns : goal.returns
returns c =
    let e = ap number_in c.disp_word.ensures ∙ base_said _ _ c.requires in
    grind (arith, common_steps, e)
