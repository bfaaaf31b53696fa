-- The words of a move. Assumes nothing.
use Rattle.records.proofs.Laws.{move_made}
use Rattle.records.proofs.of_move.Goals as goal

pub returns : goal.returns
returns c = rw (← c.from.ensures) (move_made _ _ _ c.in_ok-w.ensures)
