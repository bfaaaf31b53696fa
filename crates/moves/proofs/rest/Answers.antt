-- The stores of `moves::rest`, each with the place after it. Assumes nothing.
use Rattle.std.proofs.Common.{◌≡◌, ℕ, List, ap, ◌∙◌, arith}
use Rattle.words.specs.Listed.{words_of}
use Rattle.halfwords.proofs.Pass.{at_index}
use Rattle.moves.specs.Moves.{rest}
use Rattle.moves.proofs.Lists.{among, others_parts, one_more, held}
use Rattle.moves.proofs.rest.Goals as goal

pub loop-k-preserved : goal.loop-k-preserved
loop-k-preserved c =
    let a = c.args in
    let l = c.loop-k in
    let here = at_index a.imm l.k c.cut.ensures c.loop-k-test.true in
    let m = one_more a.rd.number a.f a.imm l.k l.invariant.holds (omega arith) here c.from-count.ensures c.word.ensures in
    record { few = omega arith; holds = m.1 }

pub returns : goal.returns
returns c =
    let a = c.args in
    let l = c.loop-k in
    let four : l.k ≡ 4 = omega arith in
    held _ _ _ l.invariant.holds ∙ ap (λ (ps : List (ℕ × ℕ)). words_of (rest ps a.rd.number)) (ap (among a.f a.imm) four ∙ others_parts a.f a.imm)
