-- What `writers::put_all` says and leaves: what is turned down is not written, the words fit, or there is no room. Assumes nothing.
use Rattle.std.proofs.Common.{◌≡◌, ◌+◌, ◌/◌, ◌≤◌, length, sym, rules, length-take, arith}
use Rattle.words.specs.Listed.{list_of, listed}
use Rattle.words.specs.Answer.{said}
use Rattle.writers.proofs.Units.{units_no, units_full, units_done}
use Rattle.writers.proofs.put_all.Goals as goal
use Rattle.writers.proofs.put_all.Goals.{then-room-i-via-then-room-i, then-room-i-via-else-room-i+then-room-i-2}

pub returns-in_err-f : goal.returns-in_err-f
returns-in_err-f g c =
    let no = units_no g.T.Unit.size g.T.Unit.spell c.args.run.now c.args.at (listed (said c.args.m)) c.in_err-f.ensures in
    search rules

pub returns-then-room-i : goal.returns-then-room-i
returns-then-room-i g c =
    let n : length (list_of c.in_ok-f.f) ≡ c.least-n.result = simp length-take (sym c.least-n.ensures) in
    units_full g.T.Unit.size g.T.Unit.spell c.args.run.now c.args.at (listed (said c.args.m)) c.in_ok-f.ensures
    (rw (← c.size.ensures.0) (elim c.then-room-i.branch [ then-room-i-via-then-room-i w ↦ omega arith | then-room-i-via-else-room-i+then-room-i-2 w ↦ omega arith ]))

pub returns : goal.returns
returns g c =
    let n : length (list_of c.in_ok-f.f) ≡ c.least-n.result = simp length-take (sym c.least-n.ensures) in
    let there : c.args.at.position.0 + c.least-n.result ≤ length c.args.run.now / c.size.result = omega arith in
    rw (c.store_all.ensures, ← n)
    (units_done g.T.Unit.size g.T.Unit.spell c.args.run.now c.args.at (listed (said c.args.m)) c.in_ok-f.ensures (rw (n, ← c.size.ensures.0) there))
