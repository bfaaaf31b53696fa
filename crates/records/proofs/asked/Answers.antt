-- The answer of a kind that is none of the four. Assumes nothing.
use Rattle.std.proofs.Common.{refl, ne_eqb, arith}
use Rattle.records.specs.Records.{asked_by}
use Rattle.records.proofs.asked.Goals as goal

pub returns-in_default : goal.returns-in_default
unfolding asked_by
returns-in_default c =
    let k = c.args.kind in
    simp (ne_eqb k 1 (omega arith), ne_eqb k 2 (omega arith), ne_eqb k 3 (omega arith), ne_eqb k 4 (omega arith))
    (record { item = _; line = refl; plain = tt; says = refl })
