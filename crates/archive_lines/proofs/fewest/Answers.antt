-- Goals of `archive_lines::fewest`. Assumes nothing.
use Rattle.std.proofs.Common.{rules}
use Rattle.archive_lines.proofs.Lines.{fewest_is}
use Rattle.archive_lines.proofs.fewest.Goals as goal

pub returns : goal.returns
returns c = fewest_is c.args.c _ c.mov_words.ensures c.map_or.ensures (λ w h. search rules) (λ r h. h)
