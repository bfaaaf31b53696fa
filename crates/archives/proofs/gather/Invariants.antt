-- What the loop of `archives::gather` keeps. Assumes nothing.
use Rattle.std.proofs.Common.{◌≡◌, length, take}
use lib.Seq.{sets}
use Rattle.archives.specs.Printed.{words_of}
use Rattle.archives.proofs.gather.Given as goal

abbrev pub invariant-loop-i : goal.invariant-loop-i
invariant-loop-i l = (length l.words ≡ length l.initial.words) × (l.words ≡ sets l.initial.words 0 (take l.i (words_of l.bytes)))
