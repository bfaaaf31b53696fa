-- The answers of `logical_decoder::repeated`. Assumes nothing.
use mathlib.Core.Path.{◌≡◌, refl}
use Prim.Native.Nat.{ℕ, ◌+◌, ◌-◌, ◌*◌, ◌/◌, ◌%◌, ◌^◌, ◌≤◌, ◌<◌, min}
use native.Mathlib.Nat.{lt_of_le_of_lt, lt_of_lt_of_le}
use native.Mathlib.Omega.{arith}
use lib.Pow.{ones_lt, pow_mono, shl_exact}
use Rattle.arm.specs.Bits.{Ones, Replicate}
use Rattle.arm.specs.BitMasks.{IsWidth}
use Rattle.arm.specs.Elements.{Element, runs}
use Rattle.arm.proofs.Lengths.{cut, whole, width_le}
use Rattle.arm.proofs.Runs.{bound}
use Rattle.words.proofs.Low.{least_below}
use Rattle.logical.specs.Width.{bits_of}
use Rattle.logical.proofs.Laws.{width_is}
use Rattle.logical_decoder.proofs.repeated.Goals as goal

-- no bit is shifted out, and the copies stand apart
product : (w e p l a g : ℕ) → IsWidth w → Element w e → p + l ≤ e → l < 64 → a ≡ Ones (min l 64) → g ≡ Replicate e 1 (64 / e)
    → (a * 2 ^ p % 2 ^ 64 * (g / 2 ^ (64 - w)) ≡ runs e (w / e) p l) × (a * 2 ^ p % 2 ^ 64 * (g / 2 ^ (64 - w)) ≤ Ones w)
product w e p l a g ww el h hl ones is =
    let fits : e ≤ 64 = omega (arith, el.fits, width_le ww) in
    rw (ones, is, cut ww el, least_below hl, shl_exact l p 64 (ones_lt l) (omega arith)) (refl, bound w e (w / e) p l (whole ww el) h)

made : (c : goal.After-bits)
    → let w = bits_of c.args.w in
    let x = c.lsb_mask.result * 2 ^ c.args.p % 2 ^ 64 * (c.copies.result / 2 ^ (64 - c.bits.result)) in
    (x ≡ runs c.args.e (w / c.args.e) c.args.p c.args.l) × (x ≤ Ones w)
made c =
    rw c.bits.ensures
    (product (bits_of c.args.w) c.args.e c.args.p c.args.l c.lsb_mask.result c.copies.result (width_is c.args.w) c.requires.0 c.requires.3
    (omega (arith, c.requires.0.fits, width_le (width_is c.args.w))) c.lsb_mask.ensures c.copies.ensures)

pub overflow_mul-result : goal.overflow_mul-result
overflow_mul-result c = record { fits = lt_of_le_of_lt (made c).1 (lt_of_lt_of_le (ones_lt _) (pow_mono (width_le (width_is c.args.w)))) }

pub returns : goal.returns
returns c = made c
