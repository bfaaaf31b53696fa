-- Goals of `archive_lines::put_told`. Assumes nothing.
use Rattle.lines.proofs.Parts.{before}
use Rattle.archive_lines.proofs.put_told.Goals as goal

pub returns-in-Joined : goal.returns-in-Joined
returns-in-Joined c =
    rw c.in-Joined.is (before _ _ _ c.number-p.ensures _ c.put_constant.ensures)

pub returns-in-Single : goal.returns-in-Single
returns-in-Single c =
    rw c.in-Single.is (before _ _ _ c.number-p-in-Single.ensures _ c.put_item.ensures)
