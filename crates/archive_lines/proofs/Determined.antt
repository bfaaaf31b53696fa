-- The contract allows one place, and one run after it. Assumes nothing.
use Rattle.words.proofs.Contracts.{OneWrite, one_pair}
use Rattle.archive_lines.proofs.line.Reads as line

pub line_determined : OneWrite line.Post (λ k x. x.1.0.now)
line_determined k a r s x y p q = one_pair p q
