-- The four stores of `writers::store_all`. Assumes nothing.
use Rattle.std.proofs.Common.{◌≡◌, ◌+◌, arith}
use Rattle.writers.proofs.Stores.{stores}
use Rattle.writers.proofs.store_all.Goals as goal

pub returns : goal.returns
returns g c =
    let i = c.args.i in
    let f = c.args.f in
    let same : i + 0 ≡ i = omega arith in
    rw (c.store-4.ensures, c.store-3.ensures, c.store-2.ensures, c.store.ensures, c.least.ensures, c.least-2.ensures, c.least-3.ensures, c.requires.count)
    (rw same at (stores g.T.Unit.size g.T.Unit.spell g.met.T.Unit.spelled i f.count f.a f.b f.c f.d c.args.run.now (omega arith)))
