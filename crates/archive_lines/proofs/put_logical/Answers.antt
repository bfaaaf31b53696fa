-- Goals of `archive_lines::put_logical`. Assumes nothing.
use Rattle.lines.proofs.Parts.{before, then}
use Rattle.archive_lines.proofs.put_logical.Goals as goal

pub returns : goal.returns
returns c =
    rw (← c.from.ensures, ← c.from-2.ensures, ← c.from-3.ensures, ← c.name_of.ensures)
    (before _ _ _ c.text-p.ensures _
    (then _ _ _ c.put_field-q.ensures
    (then _ _ _ c.put_field-s.ensures (then _ _ _ c.put_field-t.ensures (then _ _ _ c.put_value-u.ensures c.put_fields.ensures)))))
