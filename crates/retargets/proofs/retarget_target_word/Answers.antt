-- What is left of `retargets::retarget_target_word`: the target over the base that is made of the word there, or no base. Assumes nothing.
use Rattle.std.proofs.Common.{ℕ, List, ap, ◌∙◌}
use Rattle.std.proofs.lemmas.Result.{err_from_is_err_and}
use mathlib.Core.Option.{Option}
use Rattle.words.specs.Said.{Said, no}
use Rattle.words.specs.Answer.{number_of}
use Rattle.words.specs.Listed.{packed}
use Rattle.words.specs.declared.Refusal.{Refusal}
use Rattle.words.specs.declared.Words.{Words}
use Rattle.disp_targets.specs.Target.{page_of, between, low_of, carrying, word_said}
use Rattle.retargets.specs.Retarget.{standing_said}
use Rattle.retargets.proofs.Answers.{over_base, no_base}
use Rattle.retargets.proofs.retarget_target_word.Goals as goal

-- what is said, and the low bits beside it
abbrev with_low : ℕ → ℕ → Said (List ℕ) → Said (Words × Option ℕ)
with_low n t s = carrying (low_of n t) (packed s)

pub returns-in_err-base : goal.returns-in_err-base
returns-in_err-base c =
    let a = c.args in
    let n = a.format in
    let t = a.target.0 in
    let r = c.in_err-base.field-0.0 in
    let e = err_from_is_err_and c.from_residual.result c.from_residual.ensures.1 in
    ap word_said e.1 ∙ ap (λ (q : Refusal). no (number_of q)) e.2
    ∙ ap (with_low n t) (no_base n (between (page_of n t) (page_of n a.address.0)) (standing_said a.there) (number_of r) c.in_err-base.ensures)

pub returns : goal.returns
returns c =
    let a = c.args in
    let n = a.format in
    let t = a.target.0 in
    c.disp_target_word.ensures
    ∙ ap (with_low n t) (over_base n (between (page_of n t) (page_of n a.address.0)) (standing_said a.there) c.in_ok-base.field-0.0 c.in_ok-base.ensures)
