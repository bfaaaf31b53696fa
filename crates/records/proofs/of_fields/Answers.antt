-- The fields and the element length, or the refusal's number. Assumes nothing.
use Rattle.std.proofs.Common.{◌≡◌, refl, rules, Err}
use Rattle.words.specs.Said.{ok, no}
use Rattle.records.proofs.of_fields.Goals as goal

pub returns-in_err-f : goal.returns-in_err-f
returns-in_err-f c =
    let e : c.from_residual.result ≡ Err c.in_err-f.field-0.0 = search rules in
    rw e (record { item = _; line = refl; plain = tt; says = (no _, c.in_err-f.ensures, refl) })

pub returns : goal.returns
returns c = rw c.four.ensures (record { item = _; line = refl; plain = refl; says = (ok _, c.in_ok-f.ensures, refl) })
