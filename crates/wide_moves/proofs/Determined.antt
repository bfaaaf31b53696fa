-- Each public entry's contract allows one answer. Assumes nothing.
use Rattle.words.proofs.Answers.{said_all}
use Rattle.words.proofs.Contracts.{OneAnswer, one_answer}
use Rattle.wide_moves.proofs.read_wide.Reads as read_wide
use Rattle.wide_moves.proofs.write_wide.Reads as write_wide

pub read_wide_determined : OneAnswer read_wide.Post
read_wide_determined k a r s x y p q = one_answer p q

pub write_wide_determined : OneAnswer write_wide.Post
write_wide_determined k a r s x y p q = said_all r s (one_answer p q)
