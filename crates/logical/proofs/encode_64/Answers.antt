-- The answers of `logical::encode_64`. Assumes nothing.
use mathlib.Core.Path.{◌≡◌, refl, ap, ◌∙◌}
use mathlib.Core.Logic.{inr}
use Prim.Native.Nat.{◌%◌}
use native.Mathlib.Omega.{arith}
use Rattle.std.specs.Prelude.{Some, None}
use Rattle.std.specs.Result.{result_ok}
use Rattle.std.proofs.lemmas.Result.{err_from_is_err_and}
use Rattle.words.specs.declared.Refusal.TheVariants.{NoField}
use Rattle.logical.proofs.Laws.{even_answer, odd_answer, no_answer}
use Rattle.logical.proofs.encode_64.Goals as goal

pub returns-in_err-e : goal.returns-in_err-e
returns-in_err-e c =
    let p = err_from_is_err_and c.from_residual.result c.from_residual.ensures.1 in
    let none : c.find_run.result ≡ None = c.ok_or.ensures.ok_part ∙ ap result_ok c.in_err-e.was in
    let three : c.in_err-e.field-0.0 ≡ NoField = grind arith in
    rw (p.1, p.2, three) (no_answer (inr refl) c.ranges.v.fits c.evened.ensures (rw none at c.find_run.ensures))

pub returns-then-v-eq0 : goal.returns-then-v-eq0
returns-then-v-eq0 c =
    let found : c.find_run.result ≡ Some c.in_ok-e.field-0 = c.ok_or.ensures.ok_part ∙ ap result_ok c.in_ok-e.was in
    rw c.spell.ensures
    (even_answer (inr refl) c.ranges.v.fits (rw (c.evened.ensures.same c.if-v-eq0.true, found) at c.find_run.ensures))

pub returns-else-v-eq0 : goal.returns-else-v-eq0
returns-else-v-eq0 c =
    let odd : c.args.v % 2 ≡ 1 = omega (arith, c.if-v-eq0.false) in
    let found : c.find_run.result ≡ Some c.in_ok-e.field-0 = c.ok_or.ensures.ok_part ∙ ap result_ok c.in_ok-e.was in
    rw c.spell-else-v-eq0.ensures
    (odd_answer (inr refl) c.ranges.v.fits (rw (c.evened.ensures.other odd, found) at c.find_run.ensures))
