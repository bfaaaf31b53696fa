-- Goals of `items::logical`. Assumes nothing.
use Rattle.std.proofs.Common.{sym, ◌∙◌, arith}
use Rattle.items.proofs.Logicals.{group_none, mask_long, mask_is, mask_err, mask_ok}
use Rattle.items.proofs.logical.Goals as goal

pub returns-then-x-ne36 : goal.returns-then-x-ne36
returns-then-x-ne36 c = group_none _ c.if-x-ne36.true

pub returns-in_err-value : goal.returns-in_err-value
returns-in_err-value c =
    c.from_residual.ensures ∙ mask_err _ c.if-x-ne36.false _ c.decode_logical_imm.ensures (sym c.in_err-value.was ∙ c.ok.ensures.value)

pub length_of-length-requires : goal.length_of-length-requires
length_of-length-requires c =
    (omega arith, omega arith, mask_long _ (mask_ok _ _ (sym c.in_ok-value.was ∙ c.ok.ensures.value) c.decode_logical_imm.ensures))

pub returns : goal.returns
returns c =
    mask_is _ (mask_ok _ _ (sym c.in_ok-value.was ∙ c.ok.ensures.value) c.decode_logical_imm.ensures) c.if-x-ne36.false c.length_of-length.ensures
