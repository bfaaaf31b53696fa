-- Each public entry's contract allows one answer, and one run after it. Assumes nothing.
use Rattle.words.proofs.Answers.{said_all}
use Rattle.words.proofs.Contracts.{OneAnswer, OneWrite, one_answer, one_write}
use Rattle.patchable_moves.proofs.patchable_mov_words.Reads as patchable_mov_words
use Rattle.patchable_moves.proofs.encode_patchable_mov_imm.Reads as encode_patchable_mov_imm

pub patchable_mov_words_determined : OneAnswer patchable_mov_words.Post
patchable_mov_words_determined k a r s x y p q = said_all r s (one_answer p q)

pub encode_patchable_mov_imm_determined : OneWrite encode_patchable_mov_imm.Post (λ k x. x.0.now)
encode_patchable_mov_imm_determined k a r s x y p q = one_write r s p q
