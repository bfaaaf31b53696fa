-- What `label_runs::use_flat` finds after its test: room for the use in each run. Assumes nothing.
use Rattle.std.proofs.Common.{sym, arith}
use Rattle.labels.specs.Sheet.{use_record}
use Rattle.label_runs.proofs.Flat.{use_fits}
use Rattle.label_runs.proofs.use_flat.Goals as goal

pub bounds-marks-n : goal.bounds-marks-n
bounds-marks-n c =
    let a = c.args in
    (use_fits a.labels.now a.words.now a.marks.now a.ats.now a.formats.now a.n a.at (use_record a.label a.at a.format) c.named-again.result c.room.result
    c.room.ensures (sym c.in_ok-may_use.ensures)).0

pub bounds-ats-n : goal.bounds-ats-n
bounds-ats-n c =
    let a = c.args in
    (use_fits a.labels.now a.words.now a.marks.now a.ats.now a.formats.now a.n a.at (use_record a.label a.at a.format) c.named-again.result c.room.result
    c.room.ensures (sym c.in_ok-may_use.ensures)).1

pub bounds-formats-n : goal.bounds-formats-n
bounds-formats-n c =
    let a = c.args in
    (use_fits a.labels.now a.words.now a.marks.now a.ats.now a.formats.now a.n a.at (use_record a.label a.at a.format) c.named-again.result c.room.result
    c.room.ensures (sym c.in_ok-may_use.ensures)).2

pub offset_bounds-marks-n : goal.offset_bounds-marks-n
offset_bounds-marks-n c = record { fits = omega (arith, bounds-marks-n c) }

pub offset_bounds-ats-n : goal.offset_bounds-ats-n
offset_bounds-ats-n c = record { fits = omega (arith, bounds-ats-n c) }

pub offset_bounds-formats-n : goal.offset_bounds-formats-n
offset_bounds-formats-n c = record { fits = omega (arith, bounds-formats-n c) }

pub overflow_add-result : goal.overflow_add-result
overflow_add-result c = record { fits = omega (arith, bounds-marks-n c) }
