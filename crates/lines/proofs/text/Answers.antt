-- A text where there is room for it, and where there is none. Assumes nothing.
use Rattle.std.proofs.Common.{sym, rules, length}
use Rattle.lines.specs.Parts.{text}
use Rattle.lines.proofs.Parts.{enough, too_few, part_full, part_is}
use Rattle.lines.proofs.text.Goals as goal

pub returns-then-not-has_room : goal.returns-then-not-has_room
returns-then-not-has_room c = sym (part_full _ _ (text _) (too_few c.has_room.ensures c.if-not-has_room.true))

pub returns : goal.returns
returns c = part_is _ _ (text _) {m = length c.args.t.now} (enough c.has_room.ensures c.if-not-has_room.false) (search rules)
