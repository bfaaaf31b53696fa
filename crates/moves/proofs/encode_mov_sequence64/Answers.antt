-- What `moves::encode_mov_sequence64` says and leaves: the writer's answer to the words by value. Assumes nothing.
use Rattle.std.proofs.Common.{ap, ◌∙◌}
use Rattle.words.specs.Listed.{listed}
use Rattle.words.proofs.Answers.{listed_packed}
use Rattle.writers.specs.Put.{put_of}
use Rattle.moves.proofs.Lengths.{mov_short}
use Rattle.moves.proofs.encode_mov_sequence64.Goals as goal

pub returns : goal.returns
returns c = c.put.ensures ∙ ap (put_of _ _) (ap listed c.mov_words.ensures ∙ listed_packed _ (mov_short _ _))
