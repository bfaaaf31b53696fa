-- Up to four numbers, one behind the other. Assumes nothing.
use Rattle.lines.proofs.Puts.{then, parts}
use Rattle.lines.proofs.Cursor.parts.Goals as goal

pub returns : goal.returns
returns c =
    let f = c.args.f in
    rw (← parts _ f.count f.a f.b f.c f.d) (then 21 63 c.part.ensures (then 21 42 c.part-2.ensures (then 21 21 c.part-3.ensures c.part-4.ensures)))
