-- Each public entry's contract allows one answer, and one table after it. Assumes nothing.
use Rattle.words.proofs.Answers.{said_all}
use Rattle.words.proofs.Contracts.{OneAnswer, OneWrite, one_answer, one_pair}
use Rattle.labels.proofs.Tests.{code_all}
use Rattle.labels.proofs.is_label.Reads as is_label
use Rattle.labels.proofs.is_aligned.Reads as is_aligned
use Rattle.labels.proofs.bind.Reads as bind
use Rattle.labels.proofs.has_room.Reads as has_room
use Rattle.labels.proofs.may_finish.Reads as may_finish
use Rattle.labels.proofs.answered.Reads as answered

pub is_label_determined : OneAnswer is_label.Post
is_label_determined k a r s x y p q = one_answer p q

pub is_aligned_determined : OneAnswer is_aligned.Post
is_aligned_determined k a r s x y p q = one_answer p q

pub bind_determined : OneWrite bind.Post (λ k x. x.0.now)
bind_determined k a r s x y p q = let e = one_pair p q in (said_all r s e.0, e.1)

pub has_room_determined : OneAnswer has_room.Post
has_room_determined k a r s x y p q = one_answer p q

pub may_finish_determined : OneAnswer may_finish.Post
may_finish_determined k a r s x y p q = code_all r s (one_answer p q)

pub answered_determined : OneAnswer answered.Post
answered_determined k a r s x y p q = said_all r s (one_answer p q)
