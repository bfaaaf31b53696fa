-- What `host_displacements::vaimalofo_displacement` puts is the word that is asked for. Assumes nothing.
use Rattle.std.proofs.Common.{ℤ, ap, ◌∙◌, to_z-of_z}
use Rattle.words.specs.Listed.{listed, packed}
use Rattle.words.specs.Place.{place_at}
use Rattle.words.proofs.Answers.{listed_packed}
use Rattle.displacements.specs.Answer.{disp_said}
use Rattle.displacements.proofs.Answers.{short}
use Rattle.host.proofs.Laws.{asked}
use Rattle.host_displacements.proofs.vaimalofo_displacement.Goals as goal

pub returns : goal.returns
returns c =
    let a = c.args in
    let word = c.disp_word.ensures ∙ ap (λ (d : ℤ). packed (disp_said a.format a.base d)) (to_z-of_z c.ranges.distance) in
    asked a.bytes.now (place_at a.base_address a.position) c.put.ensures
    (ap listed word ∙ listed_packed (disp_said a.format a.base a.distance) (short a.format a.base a.distance))
