-- Each public entry's contract allows one answer, and one run after it. Assumes nothing.
use Rattle.words.proofs.Answers.{said_all}
use Rattle.words.proofs.Contracts.{OneAnswer, OneWrite, one_answer, one_pair, one_write}
use Rattle.disp_targets.proofs.Determined.{word_all, written_all}
use Rattle.retargets.proofs.retarget_word.Reads as retarget_word
use Rattle.retargets.proofs.retarget_target_word.Reads as retarget_target_word
use Rattle.retargets.proofs.retarget.Reads as retarget
use Rattle.retargets.proofs.retarget_to.Reads as retarget_to

pub retarget_word_determined : OneAnswer retarget_word.Post
retarget_word_determined k a r s x y p q = said_all r s (one_answer p q)

pub retarget_target_word_determined : OneAnswer retarget_target_word.Post
retarget_target_word_determined k a r s x y p q = word_all r s (one_answer p q)

pub retarget_determined : OneWrite retarget.Post (λ k x. x.0.now)
retarget_determined k a r s x y p q = one_write r s p q

pub retarget_to_determined : OneWrite retarget_to.Post (λ k x. x.0.now)
retarget_to_determined k a r s x y p q = let e = one_pair p q in (written_all r s e.0, e.1)
