-- Each public entry's contract allows one answer. Assumes nothing.
use Rattle.words.proofs.Contracts.{OneAnswer, one_answer}
use Rattle.reader.proofs.read_at.Reads as read_at
use Rattle.reader.proofs.resume.Reads as resume

pub read_at_determined : OneAnswer read_at.Post
read_at_determined k a r s x y p q = one_answer p q

pub resume_determined : OneAnswer resume.Post
resume_determined k a r s x y p q = one_answer p q
