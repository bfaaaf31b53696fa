-- A word of the group of wide moves and logical immediates is no displacement. Assumes nothing.
use Rattle.items.proofs.Forms.{none_in}
use Rattle.items.proofs.displaced.Goals as goal

pub returns-then-w-eq18 : goal.returns-then-w-eq18
returns-then-w-eq18 c = none_in _ c.if-w-eq18.true
