-- `pick_fp_opcode`'s contract allows one answer: it is an equation of what is said, and that is all of the answer. Assumes nothing.
use Rattle.std.proofs.Common.{ℕ, refl}
use Rattle.words.proofs.Answers.{said_as_all}
use Rattle.words.proofs.Contracts.{OneAnswer, one_answer}
use Rattle.fp_picks.specs.declared.Picked.{Picked}
use Rattle.fp_picks.proofs.pick_fp_opcode.Reads as pick_fp_opcode

pub pick_fp_opcode_determined : OneAnswer pick_fp_opcode.Post
pick_fp_opcode_determined k a r s x y p q =
    said_as_all (λ (p : Picked). (p.word.0, p.size)) (λ (p : ℕ × ℕ). record { word = record { 0 = p.0 }; size = p.1 }) (λ p. refl) r s (one_answer p q)
