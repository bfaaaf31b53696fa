-- The entry's contract allows one answer, and one run of numbers after it. Assumes nothing.
use Rattle.words.proofs.Contracts.{OneWrite, one_pair}
use Rattle.host_reader.proofs.vaimalofo_read.Reads as read

pub read_determined : OneWrite read.Post (λ k x. x.1.1.0.now)
read_determined k a r s x y p q = one_pair p q
