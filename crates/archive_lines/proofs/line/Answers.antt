-- Goals of `archive_lines::line`. Assumes nothing.
use mathlib.Core.Path.{sym}
use native.Mathlib.Omega.{arith}
use Rattle.lines.proofs.Parts.{only, then}
use Rattle.archive_lines.proofs.Lines.{line_full, line-is}
use Rattle.archive_lines.proofs.line.Goals as goal

pub returns-then-saturating_sub-lt-LONGEST_LINE : goal.returns-then-saturating_sub-lt-LONGEST_LINE
returns-then-saturating_sub-lt-LONGEST_LINE c = sym (line_full _ _ _ (omega (arith, c.saturating_sub.ensures)))

pub returns : goal.returns
returns c =
    let a = c.args in
    line-is _ _ a.t (omega (arith, c.saturating_sub.ensures)) (then _ _ _ c.put_told-p.ensures (only _ _ _ c.text.ensures))
