-- The answers of `logical::encode_32`. Assumes nothing.
use Rattle.std.proofs.lemmas.Result.{err_from_is_err_and}
use Rattle.logical.proofs.Laws.{narrow_fields, narrow_long, narrow_none}
use Rattle.logical.proofs.encode_32.Goals as goal

pub returns-in_err-f : goal.returns-in_err-f
returns-in_err-f c =
    let p = err_from_is_err_and c.from_residual.result c.from_residual.ensures.1 in
    rw (p.1, p.2) (narrow_none c.args.v c.requires _ c.in_err-f.ensures)

pub returns-then-f-eq0 : goal.returns-then-f-eq0
returns-then-f-eq0 c = narrow_fields c.args.v c.requires _ c.in_ok-f.ensures c.if-f-eq0.true

pub returns-else-f-eq0 : goal.returns-else-f-eq0
returns-else-f-eq0 c = narrow_long c.args.v c.requires _ c.in_ok-f.ensures c.if-f-eq0.false
