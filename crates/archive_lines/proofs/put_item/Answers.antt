-- Goals of `archive_lines::put_item`. Assumes nothing.
use Rattle.lines.proofs.Parts.{only, before}
use Rattle.archive_lines.proofs.put_item.Goals as goal

pub returns-in-Unknown : goal.returns-in-Unknown
returns-in-Unknown c =
    rw c.in-Unknown.is (before _ _ _ c.text-p.ensures _ (only _ _ _ c.word.ensures))
