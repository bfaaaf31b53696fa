-- The check of `label_uses::sheets::check`: what is found in the uses that are left is what is found in all. Assumes nothing.
use Rattle.std.proofs.Common.{◌≡◌, [], take}
use Rattle.labels.specs.Sheet.{check_of}
use Rattle.labels.proofs.Turns.{check_at}
use Rattle.label_uses.proofs.sheets.check.Given as goal

abbrev pub invariant-loop-i : goal.invariant-loop-i
invariant-loop-i g l = let us = take l.n (g.S.Sheet.uses l.sheet) in check_at l.at l.labels l.words us l.i ≡ check_of l.at l.labels l.words [] us
