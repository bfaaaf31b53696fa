-- `encode_lmh`'s contract allows one answer: it is an equation of what is said, and that is all of the answer. Assumes nothing.
use Rattle.words.proofs.Answers.{said_all}
use Rattle.words.proofs.Contracts.{OneAnswer, one_answer}
use Rattle.simd.proofs.encode_lmh.Reads as encode_lmh

pub encode_lmh_determined : OneAnswer encode_lmh.Post
encode_lmh_determined k a r s x y p q = said_all r s (one_answer p q)
