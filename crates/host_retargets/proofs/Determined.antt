-- Each entry's contract allows one answer, and one run of bytes after it. Assumes nothing.
use Rattle.words.proofs.Contracts.{OneWrite, one_pair}
use Rattle.host_retargets.proofs.vaimalofo_retarget.Reads as retarget
use Rattle.host_retargets.proofs.vaimalofo_retarget_to.Reads as retarget_to

pub retarget_determined : OneWrite retarget.Post (λ k x. x.0.now)
retarget_determined k a r s x y p q = one_pair p q

pub retarget_to_determined : OneWrite retarget_to.Post (λ k x. x.0.now)
retarget_to_determined k a r s x y p q = one_pair p q
