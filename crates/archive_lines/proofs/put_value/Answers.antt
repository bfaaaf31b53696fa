-- Goals of `archive_lines::put_value`. Assumes nothing.
use Rattle.lines.proofs.Parts.{only, before}
use Rattle.archive_lines.proofs.put_value.Goals as goal

pub returns : goal.returns
returns c =
    before _ _ _ c.text-p.ensures _ (before _ _ _ c.word-q.ensures _ (only _ _ _ c.word.ensures))
