-- The mask of `words::low_bits`. Assumes nothing.
use Rattle.std.proofs.Common.{min}
use lib.Bits.{and_mask}
use Rattle.words.proofs.low_bits.Goals as goal

pub returns : goal.returns
returns c = rw c.lsb_mask.ensures (and_mask c.args.x (min c.args.n 64))
