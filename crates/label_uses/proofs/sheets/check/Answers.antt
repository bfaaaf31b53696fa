-- The check of `label_uses::sheets::check`: a use that is refused decides. Assumes nothing.
use Rattle.std.proofs.Common.{arith, rules}
use Rattle.std.proofs.lemmas.Grind.{common_steps}
use Rattle.labels.proofs.Turns.{number_err}
use Rattle.label_uses.proofs.sheets.check.Goals as goal

pub returns-in_err-use_number : goal.returns-in_err-use_number
returns-in_err-use_number g c =
    let a = c.args in
    let us = g.S.Sheet.uses a.sheet.now in
    let e = number_err a.at a.labels.now a.words.now us a.n c.requires c.loop-i.i c.loop-i-test.true c.named-again.result c.use_at-u.result c.use_at-u.ensures
    c.named-again.ensures c.in_err-use_number.field-0.0 (search rules) in
    grind (arith, common_steps, e, c.loop-i.invariant)
