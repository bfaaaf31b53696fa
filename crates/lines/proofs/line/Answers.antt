-- A line where there is room for any, and where there is none. Assumes nothing.
use Rattle.std.proofs.Common.{sym, rules}
use Rattle.lines.proofs.Lines.{line_full}
use Rattle.lines.proofs.Parts.{enough, too_few}
use Rattle.lines.proofs.Puts.{line-is}
use Rattle.lines.proofs.line.Goals as goal

pub returns-then-not-has_room : goal.returns-then-not-has_room
returns-then-not-has_room c = sym (line_full _ _ _ (too_few c.has_room.ensures c.if-not-has_room.true))

pub returns : goal.returns
returns c = line-is {m = 96} _ (enough c.has_room.ensures c.if-not-has_room.false) (search rules)
