-- What `patchable_moves::encode_patchable_mov_imm` says and leaves: the writer's answer to the words by value. Assumes nothing.
use Rattle.std.proofs.Common.{ap, ◌∙◌}
use Rattle.words.specs.Listed.{listed}
use Rattle.words.proofs.Answers.{listed_packed}
use Rattle.writers.specs.Put.{put_of}
use Rattle.patchable_moves.specs.Patchable.{patch_said}
use Rattle.patchable_moves.proofs.Lengths.{patch_short}
use Rattle.patchable_moves.proofs.encode_patchable_mov_imm.Goals as goal

pub returns : goal.returns
returns c =
    let a = c.args in
    let short = patch_short a.value a.size a.rd in
    c.put.ensures ∙ ap (put_of a.words.now a.at) (ap listed c.patchable_mov_words.ensures ∙ listed_packed (patch_said a.value a.size a.rd) short)
