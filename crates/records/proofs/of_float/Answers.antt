-- The 8-bit float, or the refusal's number. Assumes nothing.
use Rattle.std.proofs.Common.{◌≡◌, refl, rules, Err}
use Rattle.words.specs.Said.{ok, no}
use Rattle.records.proofs.of_float.Goals as goal

pub returns-in_err-b : goal.returns-in_err-b
returns-in_err-b c =
    let e : c.from_residual.result ≡ Err c.in_err-b.field-0.0 = search rules in
    rw e (record { item = _; line = refl; plain = tt; says = (no _, c.in_err-b.ensures, refl) })

pub returns : goal.returns
returns c = rw (c.one.ensures, c.from.ensures) (record { item = _; line = refl; plain = refl; says = (ok _, c.in_ok-b.ensures, refl) })
