-- What `label_sheets::use_label` finds after its test: room for the use. Assumes nothing.
use Rattle.std.proofs.Common.{sym, arith, length, ◌+◌}
use Rattle.labels.specs.Sheet.{room_for, use_record}
use Rattle.labels.proofs.Finishing.{room_in}
use Rattle.labels.proofs.Coded.{may_room}
use Rattle.label_sheets.proofs.use_label.Goals as goal

pub bounds-uses-n : goal.bounds-uses-n
bounds-uses-n c =
    let a = c.args in
    let there = room_for (length a.uses.now) (a.n + 1) in
    let h = may_room a.labels.now a.words.now a.at (use_record a.label a.at a.format) c.named-again.result there (sym (c.in_ok-may_use.ensures)) in
    omega (arith, room_in (length a.uses.now) (a.n + 1) h)

pub offset_bounds-uses-n : goal.offset_bounds-uses-n
offset_bounds-uses-n c = record { fits = omega (arith, bounds-uses-n c) }

pub overflow_add-result : goal.overflow_add-result
overflow_add-result c = record { fits = omega (arith, bounds-uses-n c) }
