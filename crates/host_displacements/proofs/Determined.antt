-- Each entry's contract allows one answer, and one run of bytes after it. Assumes nothing.
use Rattle.words.proofs.Contracts.{OneAnswer, OneWrite, one_answer, one_pair}
use Rattle.host_displacements.proofs.vaimalofo_displacement.Reads as displacement
use Rattle.host_displacements.proofs.vaimalofo_displacement_to.Reads as displacement_to
use Rattle.host_displacements.proofs.vaimalofo_has_form.Reads as has_form
use Rattle.host_displacements.proofs.vaimalofo_read_displacement.Reads as read_displacement

pub displacement_determined : OneWrite displacement.Post (λ k x. x.0.now)
displacement_determined k a r s x y p q = one_pair p q

pub displacement_to_determined : OneWrite displacement_to.Post (λ k x. x.0.now)
displacement_to_determined k a r s x y p q = one_pair p q

pub has_form_determined : OneAnswer has_form.Post
has_form_determined k a r s x y p q = one_answer p q

pub read_displacement_determined : OneAnswer read_displacement.Post
read_displacement_determined k a r s x y p q = one_answer p q
