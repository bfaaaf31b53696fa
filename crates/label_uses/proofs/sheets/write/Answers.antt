-- The writing of `label_uses::sheets::write`: a use that passed the check names a word of the run. Assumes nothing.
use Rattle.std.proofs.Common.{arith}
use Rattle.labels.proofs.Turns.{uses_inside, uses_write}
use Rattle.label_uses.proofs.sheets.write.Goals as goal

pub bounds-words-u : goal.bounds-words-u
bounds-words-u g c =
    let h = uses_inside _ _ _ _ _ c.requires.0 c.requires.1 c.loop-i.i c.loop-i-test.true in
    rw c.use_at-u.ensures (omega (arith, h))

pub bounds-words-u-in-loop-i : goal.bounds-words-u-in-loop-i
bounds-words-u-in-loop-i g c =
    let h = uses_inside _ _ _ _ _ c.requires.0 c.requires.1 c.loop-i.i c.loop-i-test.true in
    rw c.use_at-u.ensures (omega (arith, h))

pub offset_bounds-words-u : goal.offset_bounds-words-u
offset_bounds-words-u g c =
    let h = uses_inside _ _ _ _ _ c.requires.0 c.requires.1 c.loop-i.i c.loop-i-test.true in
    record { fits = rw c.use_at-u.ensures (omega (arith, h)) }

pub offset_bounds-words-u-in-loop-i : goal.offset_bounds-words-u-in-loop-i
offset_bounds-words-u-in-loop-i g c =
    let h = uses_inside _ _ _ _ _ c.requires.0 c.requires.1 c.loop-i.i c.loop-i-test.true in
    record { fits = rw c.use_at-u.ensures (omega (arith, h)) }

pub loop-i-preserved : goal.loop-i-preserved
loop-i-preserved g c =
    let a = c.args in
    let e = c.use_at-u.ensures in
    let us = g.S.Sheet.uses a.sheet.now in
    rw e (uses_write a.at a.labels.now a.words.now us a.n c.requires.0 c.requires.1 c.loop-i.words c.loop-i.i c.fixed_word.result c.loop-i-test.true
    (rw e at c.fixed_word.ensures) c.loop-i.invariant)
