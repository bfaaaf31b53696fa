-- Goals of `archive_lines::put_field`. Assumes nothing.
use Rattle.lines.proofs.Parts.{only, before}
use Rattle.archive_lines.proofs.put_field.Goals as goal

pub returns : goal.returns
returns c = before _ _ _ c.text-p.ensures _ (only _ _ _ c.number.ensures)
