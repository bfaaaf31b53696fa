-- Goals of `archive_lines::put_fields`. Assumes nothing.
use Rattle.lines.proofs.Parts.{only, then}
use Rattle.archive_lines.proofs.put_fields.Goals as goal

pub returns-then-l : goal.returns-then-l
returns-then-l c =
    rw (c.if-l.true, ← c.from.ensures, ← c.from-2.ensures, ← c.from-3.ensures, ← c.from-4.ensures)
    (then _ _ _ c.put_field-p.ensures (then _ _ _ c.put_field-q.ensures (then _ _ _ c.put_field-s.ensures c.put_field-t.ensures)))

pub returns-else-l : goal.returns-else-l
returns-else-l c =
    rw (c.if-l.false, ← c.from.ensures, ← c.from-2.ensures, ← c.from-3.ensures, ← c.from-4.ensures)
    (then _ _ _ c.put_field-p.ensures (then _ _ _ c.put_field-q.ensures (then _ _ _ c.put_field-s.ensures (then _ _ _ c.put_field-t.ensures (only _ _ _ c.text.ensures)))))
