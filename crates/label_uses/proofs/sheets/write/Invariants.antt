-- The writing of `label_uses::sheets::write`: the uses that are left make of the run as it is what all make of the first. Assumes nothing.
use Rattle.std.proofs.Common.{◌≡◌, drop, take}
use Rattle.labels.specs.Sheet.{filled}
use Rattle.label_uses.proofs.sheets.write.Given as goal

abbrev pub invariant-loop-i : goal.invariant-loop-i
invariant-loop-i g l = let us = take l.n (g.S.Sheet.uses l.sheet) in filled l.at l.labels l.words (drop l.i us) ≡ filled l.at l.labels l.fn.words us
