-- What is left of `retargets::retarget_word`: the distance over the base that is made of the word there, or no base. Assumes nothing.
use Rattle.std.proofs.Common.{ap, ◌∙◌}
use Rattle.std.proofs.lemmas.Result.{err_from_is_err_and}
use Rattle.words.specs.Said.{no}
use Rattle.words.specs.Answer.{number_of, said}
use Rattle.words.specs.Listed.{packed}
use Rattle.words.specs.declared.Refusal.{Refusal}
use Rattle.retargets.specs.Retarget.{standing_said}
use Rattle.retargets.proofs.Answers.{over_base, no_base}
use Rattle.retargets.proofs.retarget_word.Goals as goal

pub returns-in_err-base : goal.returns-in_err-base
returns-in_err-base c =
    let a = c.args in
    let r = c.in_err-base.field-0.0 in
    let e = err_from_is_err_and c.from_residual.result c.from_residual.ensures.1 in
    ap said e.1 ∙ ap (λ (q : Refusal). no (number_of q)) e.2 ∙ ap packed (no_base a.format a.distance.0 (standing_said a.there) (number_of r) c.in_err-base.ensures)

pub returns : goal.returns
returns c =
    let a = c.args in
    c.disp_word.ensures ∙ ap packed (over_base a.format a.distance.0 (standing_said a.there) c.in_ok-base.field-0.0 c.in_ok-base.ensures)
