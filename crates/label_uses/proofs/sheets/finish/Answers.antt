-- What `label_uses::sheets::finish` may call after its tests. Assumes nothing.
use Rattle.std.proofs.Common.{sym, arith}
use Rattle.labels.proofs.Coded.{early_room}
use Rattle.label_uses.proofs.sheets.finish.Goals as goal

pub check-requires : goal.check-requires
check-requires g c = omega (arith, early_room c.args.at c.room.result c.args.n (sym c.in_ok-may_finish.ensures))

pub write-requires : goal.write-requires
write-requires g c = (omega (arith, early_room c.args.at c.room.result c.args.n (sym c.in_ok-may_finish.ensures)), sym c.in_ok-check.ensures)
