-- What `host::vaimalofo_move` puts are the words that are asked for. Assumes nothing.
use Rattle.std.proofs.Common.{ap, ◌∙◌}
use Rattle.words.specs.Listed.{listed}
use Rattle.words.specs.Place.{place_at}
use Rattle.words.proofs.Answers.{listed_packed}
use Rattle.moves.specs.Moves.{mov_said}
use Rattle.moves.proofs.Lengths.{mov_short}
use Rattle.host.proofs.Laws.{asked}
use Rattle.host.proofs.vaimalofo_move.Goals as goal

pub returns : goal.returns
returns c =
    let a = c.args in
    asked a.bytes.now (place_at a.base_address a.position) c.put.ensures
    (ap listed c.mov_words.ensures ∙ listed_packed (mov_said a.value a.register) (mov_short a.value a.register))
