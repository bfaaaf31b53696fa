-- Goals of `archives::print`. Assumes nothing.
use Rattle.std.proofs.Common.{arith, rules, refl}
use Rattle.arm.proofs.Tests.{never}
use Rattle.archives.proofs.Again.{begun, again, ended, taken, fewer, steps_within}
use Rattle.archives.proofs.print.Goals as goal

pub loop-out-init : goal.loop-out-init
loop-out-init c = begun _ _ _ _

pub overflow_sub-out : goal.overflow_sub-out
overflow_sub-out c = omega (arith, c.loop-out.invariant.room, c.loop-out.invariant.same)

pub offset_bounds-words-i : goal.offset_bounds-words-i
offset_bounds-words-i c = let h = steps_within c.loop-out.invariant.steps in search rules

pub slice_bounds-read_on-count : goal.slice_bounds-read_on-count
slice_bounds-read_on-count c = steps_within c.loop-out.invariant.steps

pub overflow_add-i : goal.overflow_add-i
overflow_add-i c =
    let loop = c.loop-out in
    omega (arith, taken loop.invariant.steps c.read_on.ensures c.in-Tell.is)

pub loop-out-smaller : goal.loop-out-smaller
loop-out-smaller c =
    let loop = c.loop-out in
    fewer loop.invariant.steps c.read_on.ensures c.in-Tell.is

pub loop-out-preserved : goal.loop-out-preserved
loop-out-preserved c =
    let loop = c.loop-out in
    again _ _ _ _ loop.invariant (omega (arith, c.loop-out-test.true, loop.invariant.room, loop.invariant.same)) c.read_on.ensures c.in-Tell.is c.line-p.ensures refl

pub overflow_sub-left : goal.overflow_sub-left
overflow_sub-left c = steps_within c.loop-out.invariant.steps

pub returns-in-Carry : goal.returns-in-Carry
returns-in-Carry c =
    record { upto = ended _ _ _ _ c.loop-out.invariant c.read_on.ensures c.in-Carry.is refl; out_len_bound = λ e. never e }

pub returns : goal.returns
returns c =
    let u = c.loop-out.invariant in
    record { upto = u; out_len_bound = λ e. omega (arith, c.loop-out-test.false, u.same) }

pub slice_bounds-read_on-start : goal.slice_bounds-read_on-start
slice_bounds-read_on-start c = steps_within c.loop-out.invariant.steps
