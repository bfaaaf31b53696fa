-- Goals of `archive_lines::put_movk`. Assumes nothing.
use Rattle.lines.proofs.Parts.{before, then}
use Rattle.archive_lines.proofs.put_movk.Goals as goal

pub returns : goal.returns
returns c =
    rw (← c.from.ensures, ← c.size_of.ensures, ← c.from-2.ensures)
    (then _ _ _ c.put_field-p.ensures
    (then _ _ _ c.put_field-q.ensures (before _ _ _ c.text-s.ensures _ (before _ _ _ c.word-t.ensures _ c.put_field.ensures))))
