-- A text, a number and the line's end, one behind the other. Assumes nothing.
use Rattle.std.proofs.Common.{length, ◌+◌, arith}
use Rattle.lines.proofs.Puts.{then, wide}
use Rattle.lines.proofs.Cursor.about.Goals as goal

pub returns : goal.returns
returns c =
    let n = length c.args.text.now in
    wide (n + 22) 34 (omega arith) (then n 22 c.text.ensures (then 1 21 c.byte.ensures (then 20 1 c.decimal.ensures c.byte-2.ensures)))
