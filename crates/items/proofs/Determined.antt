-- The contract of the public entry allows one answer. Assumes nothing.
use Rattle.words.proofs.Contracts.{OneAnswer, one_answer}
use Rattle.items.proofs.read_word.Reads as read_word

pub read_word_determined : OneAnswer read_word.Post
read_word_determined k a r s x y p q = one_answer p q
