-- Goals of `wide_moves::read_wide`. Assumes nothing.
use Rattle.wide_moves.proofs.Wides.{other_group, past_size, no_opc, read_31, read_move}
use Rattle.wide_moves.proofs.read_wide.Goals as goal

pub returns-then-x-ne37 : goal.returns-then-x-ne37
returns-then-x-ne37 c = other_group _ c.if-x-ne37.true

pub returns-then-sf-hw : goal.returns-then-sf-hw
returns-then-sf-hw c = past_size _ c.if-sf-hw.true

pub returns-then-opc-eq1 : goal.returns-then-opc-eq1
returns-then-opc-eq1 c = no_opc _ c.if-opc-eq1.true

pub returns-then-rd-eq31 : goal.returns-then-rd-eq31
returns-then-rd-eq31 c = read_31 _ c.if-x-ne37.false c.if-sf-hw.false c.if-opc-eq1.false c.if-rd-eq31.true

pub returns : goal.returns
returns c = read_move _ (record { group = c.if-x-ne37.false; size = c.if-sf-hw.false; opc = c.if-opc-eq1.false; register = c.if-rd-eq31.false })
