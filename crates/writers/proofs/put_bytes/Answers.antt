-- What `writers::put_bytes` says and leaves is what the generic writer does, at bytes. Assumes nothing.
use Rattle.std.proofs.Common.{◌∙◌}
use Rattle.writers.proofs.Units.{of_bytes}
use Rattle.writers.proofs.put_bytes.Goals as goal

pub returns : goal.returns
returns c = c.put_all.ensures ∙ of_bytes _ _ _
