-- `ok`, a list and the line's end, one behind the other. Assumes nothing.
use Rattle.lines.proofs.Puts.{then}
use Rattle.lines.proofs.Cursor.ok.Goals as goal

pub returns : goal.returns
returns c = then 2 85 c.text.ensures (then 84 1 c.parts.ensures c.byte.ensures)
