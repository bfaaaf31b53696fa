-- The answers of `logical_words::logical_word`. Assumes nothing.
use mathlib.Core.Logic.{inl, inr, ⊎_elim}
use Rattle.std.proofs.lemmas.Result.{err_from_is_err_and}
use Rattle.words.specs.Said.{ok, no}
use Rattle.logical.proofs.Model.{encode_of, encode_right}
use Rattle.logical_words.proofs.Word.{known, at_width, word_operation, word_width, word_register, word_filled}
use Rattle.logical_words.proofs.logical_word.Goals as goal

pub returns-in_err-operation : goal.returns-in_err-operation
returns-in_err-operation c =
    let a = c.args in
    let e = encode_of a.width a.imm in
    let p = err_from_is_err_and c.from_residual.result c.from_residual.ensures.1 in
    let h = c.in_err-operation.ensures in
    (e, encode_right a.width a.imm, rw (p.1, p.2, h.0, word_operation a.operation a.width a.rn a.rd e h.1))

pub returns-in_err-w : goal.returns-in_err-w
returns-in_err-w c =
    let a = c.args in
    let e = encode_of a.width a.imm in
    let p = err_from_is_err_and c.from_residual-in_err-w.result c.from_residual-in_err-w.ensures.1 in
    let o = known c.in_ok-operation.operation c.in_ok-operation.ensures in
    let h = c.in_err-w.ensures in
    (e, encode_right a.width a.imm, rw (p.1, p.2, h.0, word_width a.operation a.width a.rn a.rd e o h.1))

pub returns-then-rn-gt31 : goal.returns-then-rn-gt31
returns-then-rn-gt31 c =
    let a = c.args in
    let e = encode_of a.width a.imm in
    let o = known c.in_ok-operation.operation c.in_ok-operation.ensures in
    let w = at_width c.in_ok-w.w c.in_ok-w.ensures in
    let past = ⊎_elim inl (λ q. inr q.1) c.then-rn-gt31.either in
    (e, encode_right a.width a.imm, rw (word_register a.operation a.width a.rn a.rd e o w past))

pub returns-in_err-f : goal.returns-in_err-f
returns-in_err-f c =
    let a = c.args in
    let p = err_from_is_err_and c.from_residual-in_err-f.result c.from_residual-in_err-f.ensures.1 in
    let o = known c.in_ok-operation.operation c.in_ok-operation.ensures in
    let w = at_width c.in_ok-w.w c.in_ok-w.ensures in
    (no _, c.in_err-f.ensures, rw (p.1, p.2, word_filled a.operation a.width a.rn a.rd (no _) o w c.if-rn-gt31.false c.if-rd-gt31.false))

pub returns : goal.returns
returns c =
    let a = c.args in
    let o = known c.in_ok-operation.operation c.in_ok-operation.ensures in
    let w = at_width c.in_ok-w.w c.in_ok-w.ensures in (
      ok _,
      c.in_ok-f.ensures,
      rw (
        word_filled a.operation a.width a.rn a.rd (ok _) o w c.if-rn-gt31.false c.if-rd-gt31.false,
        c.one.ensures,
        c.placed-word.ensures,
        c.base.ensures.0,
        c.in_ok-operation.ensures,
        c.in_ok-w.ensures,
      ),
    )
