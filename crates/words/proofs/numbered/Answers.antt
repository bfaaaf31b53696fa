-- The refusal of `words::numbered`. Assumes nothing.
use Rattle.std.proofs.Common.{◌∙◌}
use Rattle.words.proofs.Answers.{numbers_of}
use Rattle.words.proofs.numbered.Goals as goal

pub returns : goal.returns
returns c = c.unwrap_or.ensures ∙ numbers_of c.args.n c.try_from.result c.try_from.ensures
