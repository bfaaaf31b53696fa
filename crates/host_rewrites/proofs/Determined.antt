-- The entry's contract allows one answer. Assumes nothing.
use Rattle.words.proofs.Contracts.{OneAnswer, one_answer}
use Rattle.host_rewrites.proofs.vaimalofo_rewrite.Reads as rewrite

pub rewrite_determined : OneAnswer rewrite.Post
rewrite_determined k a r s x y p q = one_answer p q
