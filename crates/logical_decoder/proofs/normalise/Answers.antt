-- The answers of `logical_decoder::normalise`. Assumes nothing.
use Rattle.std.proofs.lemmas.Result.{err_from_is_err_and}
use Rattle.logical_decoder.proofs.Laws.{normal_of}
use Rattle.words.specs.Answer.{said}
use Rattle.logical_decoder.proofs.normalise.Goals as goal

pub returns-in_err-m : goal.returns-in_err-m
returns-in_err-m c =
    let p = err_from_is_err_and c.from_residual.result c.from_residual.ensures.1 in
    rw (p.1, p.2) c.in_err-m.ensures

pub returns : goal.returns
returns c =
    normal_of c.args.width c.args.n c.args.s c.args.r _ (said c.encode_logical_imm.result) c.in_ok-m.ensures c.encode_logical_imm.ensures
