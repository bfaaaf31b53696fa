-- What `writers::put` says and leaves is what the generic writer does, at words. Assumes nothing.
use Rattle.std.proofs.Common.{◌∙◌}
use Rattle.writers.proofs.Units.{of_words}
use Rattle.writers.proofs.put.Goals as goal

pub returns : goal.returns
returns c = c.put_all.ensures ∙ of_words _ _ _
