-- The answer of `host_logical::vaimalofo_logical_fields`. Assumes nothing.
use Rattle.logical.proofs.Laws.{length_low}
use Rattle.host_logical.proofs.vaimalofo_logical_fields.Goals as goal

pub map_or_else-requires-clause-f_callable : goal.map_or_else-requires-clause-f_callable
map_or_else-requires-clause-f_callable c f e =
    let h = rw e at c.encode_logical_imm.ensures in
    (h.1.legal.n_bits, h.1.legal.s_bits, h.1.legal.r_bits, length_low h.0 h.1.legal h.3)
