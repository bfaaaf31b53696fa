-- Each writer's contract allows one answer, and one run after it. Assumes nothing.
use Rattle.words.proofs.Contracts.{OneWrite, one_write}
use Rattle.writers.proofs.put.Reads as put
use Rattle.writers.proofs.put_bytes.Reads as put_bytes

pub put_determined : OneWrite put.Post (λ k x. x.0.now)
put_determined k a r s x y p q = one_write r s p q

pub put_bytes_determined : OneWrite put_bytes.Post (λ k x. x.0.now)
put_bytes_determined k a r s x y p q = one_write r s p q
