-- Each public contract allows one answer, and one run of bytes after it. Assumes nothing.
use Rattle.words.proofs.Contracts.{OneAnswer, OneWrite, one_answer, one_pair}
use Rattle.host.proofs.refused.Reads as refused
use Rattle.host.proofs.place.Reads as place
use Rattle.host.proofs.put.Reads as put
use Rattle.host.proofs.put_target.Reads as put_target
use Rattle.host.proofs.yes.Reads as yes
use Rattle.host.proofs.vaimalofo_move.Reads as move
use Rattle.host.proofs.vaimalofo_patchable_move.Reads as patchable_move

pub refused_determined : OneAnswer refused.Post
refused_determined k a r s x y p q = one_answer p q

pub place_determined : OneAnswer place.Post
place_determined k a r s x y p q = one_answer p q

pub put_determined : OneWrite put.Post (λ k x. x.0.now)
put_determined k a r s x y p q = one_pair p q

pub put_target_determined : OneWrite put_target.Post (λ k x. x.0.now)
put_target_determined k a r s x y p q = one_pair p q

pub yes_determined : OneAnswer yes.Post
yes_determined k a r s x y p q = one_answer p q

pub move_determined : OneWrite move.Post (λ k x. x.0.now)
move_determined k a r s x y p q = one_pair p q

pub patchable_move_determined : OneWrite patchable_move.Post (λ k x. x.0.now)
patchable_move_determined k a r s x y p q = one_pair p q
