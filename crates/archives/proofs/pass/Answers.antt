-- Goals of `archives::pass`. Assumes nothing.
use Rattle.std.proofs.Common.{refl, ◌∙◌, arith, rules}
use Rattle.archives.proofs.Again.{steps_within, nothing_yet, all_passed, gone_on, gone_less}
use Rattle.archives.proofs.pass.Goals as goal

pub loop-next-init : goal.loop-next-init
loop-next-init g c = record { room = c.requires; same = refl; sofar = nothing_yet _ _ _ }

pub offset_bounds-words-i : goal.offset_bounds-words-i
offset_bounds-words-i g c = let h = steps_within c.loop-next.invariant.sofar.steps in search rules

pub slice_bounds-print-count : goal.slice_bounds-print-count
slice_bounds-print-count g c = steps_within c.loop-next.invariant.sofar.steps

pub slice_bounds-print-start : goal.slice_bounds-print-start
slice_bounds-print-start g c = steps_within c.loop-next.invariant.sofar.steps

pub overflow_add-i : goal.overflow_add-i
overflow_add-i g c =
    let s = gone_on c.loop-next.invariant.sofar c.print-p.ensures.upto in
    omega (arith, steps_within s.steps)

pub returns-then-p : goal.returns-then-p
returns-then-p g c = all_passed (gone_on c.loop-next.invariant.sofar c.print-p.ensures.upto) c.if-p.true

pub loop-next-smaller : goal.loop-next-smaller
loop-next-smaller g c =
    let h = c.loop-next.invariant in
    gone_less h.sofar c.print-p.ensures.upto c.print-p.ensures.out_len_bound h.room c.if-p.false

pub loop-next-preserved : goal.loop-next-preserved
loop-next-preserved g c =
    let h = c.loop-next.invariant in
    let u = c.print-p.ensures.upto in
    let s = gone_on h.sofar u in
    record { room = omega (arith, u.same, h.room); same = u.same ∙ h.same; sofar = rw c.if-p.false at s }
