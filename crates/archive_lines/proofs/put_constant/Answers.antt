-- Goals of `archive_lines::put_constant`. Assumes nothing.
use borrow.Author.Tests.{lt-ltb, le-ltb}
use Rattle.lines.proofs.Parts.{then}
use Rattle.archive_lines.proofs.put_constant.Goals as goal

pub returns-then-n-c : goal.returns-then-n-c
returns-then-n-c c =
    rw (← c.fewest-n.ensures, ← c.size_of.ensures, ← c.from.ensures, lt-ltb _ _ c.if-n-c.true)
    (then _ _ _ c.put_field-p.ensures
    (then _ _ _ c.put_field-q.ensures
    (then _ _ _ c.put_value-s.ensures
    (then _ _ _ c.put_field-t.ensures c.put_field.ensures))))

pub returns-else-n-c : goal.returns-else-n-c
returns-else-n-c c =
    rw (← c.fewest-n.ensures, ← c.size_of.ensures, ← c.from.ensures, le-ltb _ _ c.if-n-c.false)
    (then _ _ _ c.put_field-p.ensures (then _ _ _ c.put_field-q.ensures (then _ _ _ c.put_value-s.ensures c.put_field-t.ensures)))
