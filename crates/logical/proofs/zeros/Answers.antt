-- The answer of `logical::zeros`. Assumes nothing.
use mathlib.Core.Path.{refl}
use Rattle.arm.proofs.Trailing.{zeros_lt, zeros_le}
use Rattle.logical.proofs.zeros.Goals as goal

pub returns : goal.returns
returns c = (refl, zeros_lt 64 c.args.x c.requires c.ranges.x.fits, zeros_le 64 c.args.x c.requires c.ranges.x.fits)
