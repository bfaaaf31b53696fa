-- The use that `at` gives of three runs, or none past the shortest. Assumes nothing.
use Rattle.std.proofs.Common.{sym, arith}
use Rattle.std.proofs.lemmas.Option.{slice_get_past}
use Rattle.label_runs.specs.Flat.{uses_of}
use Rattle.label_runs.proofs.Flat.{use_there}
use Rattle.label_runs.proofs.RunsSheet.at.Goals as goal

pub returns-then-i-room : goal.returns-then-i-room
returns-then-i-room c =
    let s = c.args.self.now in
    use_there s.marks.now s.ats.now s.formats.now c.args.i (omega (arith, c.room.ensures, c.if-i-room.true))

pub returns-else-i-room : goal.returns-else-i-room
returns-else-i-room c =
    let s = c.args.self.now in
    sym (slice_get_past (uses_of s.marks.now s.ats.now s.formats.now) c.args.i (omega (arith, c.room.ensures, c.if-i-room.false)))
