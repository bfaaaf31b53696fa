-- What `host_retargets::vaimalofo_retarget` puts is the word that is asked for. Assumes nothing.
use Rattle.std.proofs.Common.{ℕ, ℤ, ap, ◌∙◌, to_z-of_z}
use Rattle.words.specs.Said.{Said}
use Rattle.words.specs.Listed.{listed, packed}
use Rattle.words.specs.Place.{place_at}
use Rattle.words.proofs.Answers.{listed_packed}
use Rattle.writers.specs.Put.{words_in}
use Rattle.retargets.specs.Retarget.{word_at, standing_said, again_said}
use Rattle.retargets.proofs.Answers.{again_short}
use Rattle.host.specs.Number.{host_put}
use Rattle.host_retargets.proofs.vaimalofo_retarget.Goals as goal

pub returns : goal.returns
returns c =
    let a = c.args in
    let n = a.format in
    let d = a.distance in
    let x = word_at (words_in a.bytes.now) a.position in
    let word = c.retarget_word-word.ensures ∙ ap (λ (k : ℤ). packed (again_said n (standing_said c.found-there.result) k)) (to_z-of_z c.ranges.distance) in
    let e = ap listed word
    ∙ ap (λ (y : Said ℕ). listed (packed (again_said n y d))) c.found-there.ensures
    ∙ listed_packed (again_said n x d) (again_short n x d) in
    c.put.ensures ∙ ap (host_put a.bytes.now (place_at a.base_address a.position)) e
