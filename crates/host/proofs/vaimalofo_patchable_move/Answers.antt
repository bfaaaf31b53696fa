-- What `host::vaimalofo_patchable_move` puts are the words that are asked for. Assumes nothing.
use Rattle.std.proofs.Common.{ap, ◌∙◌}
use Rattle.words.specs.Listed.{listed}
use Rattle.words.specs.Place.{place_at}
use Rattle.words.proofs.Answers.{listed_packed}
use Rattle.patchable_moves.specs.Patchable.{patch_said}
use Rattle.patchable_moves.proofs.Lengths.{patch_short}
use Rattle.host.proofs.Laws.{asked}
use Rattle.host.proofs.vaimalofo_patchable_move.Goals as goal

pub returns : goal.returns
returns c =
    let a = c.args in
    asked a.bytes.now (place_at a.base_address a.position) c.put.ensures
    (ap listed c.patchable_mov_words.ensures ∙ listed_packed (patch_said a.value a.size a.register) (patch_short a.value a.size a.register))
