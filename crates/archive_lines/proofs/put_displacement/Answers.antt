-- Goals of `archive_lines::put_displacement`. Assumes nothing.
use mathlib.Core.Path.{sym, ◌∙◌}
use Rattle.std.proofs.Common.{rules}
use Rattle.lines.proofs.Parts.{before, then}
use Rattle.archive_lines.proofs.Lines.{negative_parts, positive_parts}
use Rattle.archive_lines.proofs.put_displacement.Goals as goal

pub returns-then-is_negative : goal.returns-then-is_negative
returns-then-is_negative c =
    rw (← c.from.ensures, ← negative_parts c.args.d.distance.0 (record { sfits = search rules }) c.unsigned_abs-size.ensures.value (sym c.is_negative.ensures ∙ c.if-is_negative.true))
    (then _ _ _ c.put_field-p.ensures (before _ _ _ c.text-q.ensures _ (before _ _ _ c.word-s.ensures _ c.put_field.ensures)))

pub returns-else-is_negative : goal.returns-else-is_negative
returns-else-is_negative c =
    rw (← c.from.ensures, ← positive_parts c.args.d.distance.0 (record { sfits = search rules }) c.unsigned_abs-size.ensures.value (sym c.is_negative.ensures ∙ c.if-is_negative.false))
    (then _ _ _ c.put_field-p.ensures (before _ _ _ c.text-q.ensures _ (before _ _ _ c.word-s.ensures _ c.put_field-else-is_negative.ensures)))
