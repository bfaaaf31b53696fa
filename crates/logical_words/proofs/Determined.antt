-- Each public entry's contract allows one answer, and one run after it. Assumes nothing.
use mathlib.Core.Path.{refl}
use Rattle.words.proofs.Answers.{said_all}
use Rattle.words.proofs.Contracts.{OneAnswer, OneWrite, one_write}
use Rattle.logical.proofs.Laws.{one_from}
use Rattle.logical_words.proofs.logical_word.Reads as logical_word
use Rattle.logical_words.proofs.emit_logical_imm.Reads as emit_logical_imm

pub logical_word_determined : OneAnswer logical_word.Post
logical_word_determined k a r s x y p q = said_all r s (one_from _ p q)

pub emit_logical_imm_determined : OneWrite emit_logical_imm.Post (λ k x. x.0.now)
emit_logical_imm_determined k a r s x y p q = one_write r s (one_from _ p q) refl
