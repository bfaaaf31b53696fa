-- What is left of `retargets::retarget`: the word by value, put at the place. Assumes nothing.
use Rattle.std.proofs.Common.{ℕ, ap, ◌∙◌}
use Rattle.words.specs.Said.{Said}
use Rattle.words.specs.Listed.{listed, packed}
use Rattle.words.specs.Place.{pos_of}
use Rattle.words.proofs.Answers.{listed_packed}
use Rattle.writers.specs.Put.{put_of}
use Rattle.retargets.specs.Retarget.{word_at, again_said}
use Rattle.retargets.proofs.Answers.{again_short}
use Rattle.retargets.proofs.retarget.Goals as goal

pub returns : goal.returns
returns c =
    let a = c.args in
    let d = a.distance.0 in
    let x = word_at a.words.now (pos_of a.at) in
    let e = ap listed c.retarget_word.ensures
    ∙ ap (λ (y : Said ℕ). listed (packed (again_said a.format y d))) c.found-there.ensures
    ∙ listed_packed (again_said a.format x d) (again_short a.format x d) in
    c.put.ensures ∙ ap (put_of a.words.now a.at) e
