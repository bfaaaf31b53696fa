-- The contract allows one answer. Assumes nothing.
use Rattle.words.proofs.Contracts.{OneAnswer, one_answer}
use Rattle.archive_pieces.proofs.read_on.Reads as read_on

pub read_on_determined : OneAnswer read_on.Post
read_on_determined k a r s x y p q = one_answer p q
