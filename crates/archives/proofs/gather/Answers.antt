-- Goals of `archives::gather`. Assumes nothing.
use Rattle.std.proofs.Common.{◌≡◌, ℕ, ◌/◌, ◌<◌, List, length, take, set, ap, sym, ◌∙◌, add-one, arith, length-set}
use Rattle.archives.proofs.Gathered.{one_word, all_words}
use Rattle.archives.proofs.gather.Goals as goal

pub loop-i-preserved : goal.loop-i-preserved
loop-i-preserved c =
    let a = c.args in
    let h = c.loop-i in
    let more : h.i < length a.bytes.now / 4 = omega (arith, c.as_chunks.ensures.front_len, c.loop-i-test.true) in
    let e = ap (λ (l : List ℕ). set l h.i c.from_le_bytes.result) h.invariant.1 ∙ one_word a.words.now a.bytes.now h.i c.as_chunks.ensures.front more c.from_le_bytes.ensures in
    (simp length-set h.invariant.0, rw (add-one h.i) e)

pub returns-clause-words_after : goal.returns-clause-words_after
returns-clause-words_after c =
    let a = c.args in
    let h = c.loop-i in
    let count = c.as_chunks.ensures.front_len in
    let n : h.i ≡ length a.bytes.now / 4 = omega (arith, count, c.loop-i-test.false, h.auto.i-end) in
    let e = ap (take h.i) h.invariant.1 ∙ all_words a.words.now a.bytes.now h.i n (omega (arith, n, c.requires)) in
    rw (n ∙ sym count) at e
