-- Each public entry's contract allows one answer. Assumes nothing.
use Rattle.words.proofs.Contracts.{OneAnswer, one_answer}
use Rattle.halfwords.proofs.cut.Reads as cut
use Rattle.halfwords.proofs.count_half_words_64.Reads as count_half_words_64
use Rattle.halfwords.proofs.count_zero_half_words_64.Reads as count_zero_half_words_64

pub cut_determined : OneAnswer cut.Post
cut_determined k a r s x y p q = one_answer p q

pub count_half_words_64_determined : OneAnswer count_half_words_64.Post
count_half_words_64_determined k a r s x y p q = rw (p.zeros, p.ones, q.zeros, q.ones)

pub count_zero_half_words_64_determined : OneAnswer count_zero_half_words_64.Post
count_zero_half_words_64_determined k a r s x y p q = one_answer p q
