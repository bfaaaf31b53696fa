-- Each public entry's contract allows one answer, and one run after it. Assumes nothing.
use Rattle.std.proofs.Common.{ℕ, ℤ, refl, ap}
use Rattle.words.specs.declared.ByteDistance.{ByteDistance}
use Rattle.words.specs.declared.Opc.{Opc}
use Rattle.words.proofs.Answers.{said_all, said_as_all}
use Rattle.words.proofs.Contracts.{OneAnswer, OneWrite, one_answer, one_write}
use Rattle.displacements.proofs.clear_disp.Reads as clear_disp
use Rattle.displacements.proofs.disp_word.Reads as disp_word
use Rattle.displacements.proofs.emit_disp_imm.Reads as emit_disp_imm
use Rattle.displacements.proofs.read_disp.Reads as read_disp

abbrev opc_of : ℕ → Opc
opc_of w = record { 0 = w }

pub clear_disp_determined : OneAnswer clear_disp.Post
clear_disp_determined k a r s x y p q = ap opc_of (one_answer p q)

pub disp_word_determined : OneAnswer disp_word.Post
disp_word_determined k a r s x y p q = said_all r s (one_answer p q)

pub emit_disp_imm_determined : OneWrite emit_disp_imm.Post (λ k x. x.0.now)
emit_disp_imm_determined k a r s x y p q = one_write r s p q

pub read_disp_determined : OneAnswer read_disp.Post
read_disp_determined k a r s x y p q = said_as_all (λ (d : ByteDistance). d.0) (λ (d : ℤ). record { 0 = d }) (λ d. refl) r s (one_answer p q)
