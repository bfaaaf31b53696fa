-- A record more in a turn of the loop. Assumes nothing.
use Rattle.std.proofs.Common.{◌+◌, ◌/◌, ◌<◌, ◌≤◌, [], length, sym, ◌∙◌, arith, rules, refl}
use Rattle.batches.proofs.Again.{first, again, record_is}
use Rattle.batches.proofs.print.Goals as goal

pub loop-record-init : goal.loop-record-init
loop-record-init c = record { upto = first _ _ _ c.ranges.offset.fits; taken = search rules; goes = search rules }

pub returns-then-p-clause-upto : goal.returns-then-p-clause-upto
returns-then-p-clause-upto c =
    let loop = c.loop-record in
    let bs = c.args.bytes.now in
    let within : loop.record-index < length bs / 12 = omega arith in
    let room : loop.p.written + 96 ≤ length loop.out = omega arith in
    let more : loop.p.taken + 12 ≤ length bs = omega arith in
    let r = record_is bs [] c.as_chunks.ensures.front within loop.invariant.taken in
    let u = again c.args.offset bs c.args.out.now loop.invariant.upto more room (rw r at c.answer-a.ensures) c.line.ensures refl in
    rw (sym c.ends.ensures) at u

pub loop-record-preserved : goal.loop-record-preserved
loop-record-preserved c =
    let loop = c.loop-record in
    let bs = c.args.bytes.now in
    let within : loop.record-index < length bs / 12 = omega arith in
    let room : loop.p.written + 96 ≤ length loop.out = omega arith in
    let more : loop.p.taken + 12 ≤ length bs = omega arith in
    let r = record_is bs [] c.as_chunks.ensures.front within loop.invariant.taken in
    let u = again c.args.offset bs c.args.out.now loop.invariant.upto more room (rw r at c.answer-a.ensures) c.line.ensures refl in
    record { upto = rw (sym c.ends.ensures ∙ c.if-p.false) at u; taken = search rules; goes = c.if-p.false }
