-- Goals of `wide_moves::write_wide`. Assumes nothing.
use mathlib.Core.Path.{sym, ap, ◌∙◌}
use Rattle.words.specs.Said.{ok}
use Rattle.words.specs.Listed.{packed}
use Rattle.wide_moves.proofs.Again.{said_1, said_above, said_size, said_register, said_place, said_halfword, said_word}
use Rattle.wide_moves.proofs.write_wide.Goals as goal

pub returns-then-m-eq1 : goal.returns-then-m-eq1
returns-then-m-eq1 c = sym (ap packed (said_1 c.args.m c.if-m-eq1.true))

pub returns-then-m-gt3 : goal.returns-then-m-gt3
returns-then-m-gt3 c = sym (ap packed (said_above c.args.m c.if-m-gt3.true))

pub returns-then-m-gt1 : goal.returns-then-m-gt1
returns-then-m-gt1 c =
    sym (ap packed (said_size c.args.m c.if-m-eq1.false c.if-m-gt3.false c.if-m-gt1.true))

pub returns-then-m-gt30 : goal.returns-then-m-gt30
returns-then-m-gt30 c =
    sym (ap packed (said_register c.args.m c.if-m-eq1.false c.if-m-gt3.false c.if-m-gt1.false c.if-m-gt30.true))

pub returns-then-m : goal.returns-then-m
returns-then-m c =
    sym (ap packed (said_place c.args.m c.if-m-eq1.false c.if-m-gt3.false c.if-m-gt1.false c.if-m-gt30.false c.if-m.true))

pub returns-then-m-gt65535 : goal.returns-then-m-gt65535
returns-then-m-gt65535 c =
    sym (ap packed (said_halfword c.args.m c.if-m-eq1.false c.if-m-gt3.false c.if-m-gt1.false c.if-m-gt30.false c.if-m-gt65535.true))

pub returns : goal.returns
returns c =
    ap ok c.one.ensures ∙ sym (ap packed (said_word c.args.m c.if-m-eq1.false c.if-m-gt3.false c.if-m-gt1.false c.if-m-gt30.false c.if-m.false c.if-m-gt65535.false))
