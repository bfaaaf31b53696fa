-- The answers of `logical_decoder::mask_of`: a run that stays within the element, or the complement of the gap. Assumes nothing.
use mathlib.Core.Path.{◌≡◌, ap, ◌∙◌}
use Prim.Native.Nat.{ℕ, ◌*◌, ◌/◌, ◌≤◌, min}
use native.Mathlib.Omega.{arith}
use Rattle.arm.specs.Bits.{Ones}
use Rattle.arm.proofs.Runs.{plain_copies, wrapped_copies}
use Rattle.arm.proofs.Lengths.{whole, width_le}
use Rattle.logical.specs.Width.{bits_of}
use Rattle.logical.proofs.Laws.{width_is}
use Rattle.logical_decoder.proofs.mask_of.Goals as goal

-- all ones at the width
all : (w a : ℕ) → w ≤ 64 → a ≡ Ones (min w 64) → a ≡ Ones w
all w a h is = let least : min w 64 ≡ w = omega arith in is ∙ ap Ones least

pub returns-then-l-q : goal.returns-then-l-q
returns-then-l-q c = rw (plain_copies c.args.e c.args.l c.args.q (bits_of c.args.w / c.args.e) c.if-l-q.true) c.repeated.ensures.0

pub returns-else-l-q : goal.returns-else-l-q
returns-else-l-q c =
    let a = c.args in
    let w = bits_of a.w in
    let sum = wrapped_copies a.e a.l a.q (w / a.e) (omega arith) (omega arith) in
    let ones = all w c.lsb_mask.result (width_le (width_is a.w)) (rw c.bits.ensures at c.lsb_mask.ensures) in
    let same : Ones (a.e * (w / a.e)) ≡ Ones w = ap Ones (whole (width_is a.w) c.requires.0) in
    omega (arith, sum, same, ones, c.repeated-else-l-q.ensures.0)
