-- The answer of `host_logical::vaimalofo_normalise_logical`. Assumes nothing.
use mathlib.Core.Path.{refl}
use native.Mathlib.Nat.{mod-le}
use native.Mathlib.Omega.{arith}
use Rattle.arm.specs.BitMasks.{esize}
use Rattle.logical.proofs.Laws.{length_low}
use Rattle.host_logical.proofs.vaimalofo_normalise_logical.Goals as goal

pub map_or_else-requires-clause-f_callable : goal.map_or_else-requires-clause-f_callable
map_or_else-requires-clause-f_callable c f e =
    let a = c.args in
    let h = rw e at c.normalise.ensures in
    rw h.2 (h.1.n_bits, h.1.s_bits, omega (arith, mod-le a.r (esize a.n a.s), h.1.r_bits), length_low h.0 h.1 refl)
