-- What is left of `retargets::retarget_to`: the word by value, put at the place, at the place's address. Assumes nothing.
use Rattle.std.proofs.Common.{ℕ, ap, ◌∙◌}
use Rattle.words.specs.Said.{Said}
use Rattle.words.specs.Listed.{packed}
use Rattle.words.specs.Place.{pos_of, address_of}
use Rattle.words.specs.declared.Address.{Address}
use Rattle.writers.specs.Put.{put_of}
use Rattle.writers.proofs.Writes.{put_no}
use Rattle.disp_targets.specs.Target.{page_of, between, low_of, carrying, put_to}
use Rattle.disp_targets.proofs.Targets.{put_to_lem}
use Rattle.retargets.specs.Retarget.{word_at, standing_said, again_to}
use Rattle.retargets.proofs.Answers.{again_short}
use Rattle.retargets.proofs.retarget_to.Goals as goal

pub returns : goal.returns
returns c =
    let a = c.args in
    let n = a.format in
    let t = a.target.0 in
    let put = put_of a.words.now a.at in
    let x = word_at a.words.now (pos_of a.at) in
    c.put_target.ensures
    ∙ ap (put_to put) c.retarget_target_word-word.ensures
    ∙ ap (λ (at : Address). put_to put (carrying (low_of n t) (packed (again_to n (standing_said c.found-there.result) t at.0)))) c.address_of.ensures
    ∙ ap (λ (y : Said ℕ). put_to put (carrying (low_of n t) (packed (again_to n y t (address_of a.at))))) c.found-there.ensures
    ∙ put_to_lem put (put_no a.words.now a.at) (low_of n t) (again_to n x t (address_of a.at)) (again_short n x (between (page_of n t) (page_of n (address_of a.at))))
