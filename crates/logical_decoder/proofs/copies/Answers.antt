-- The answers of `logical_decoder::copies`. Assumes nothing.
use mathlib.Core.Path.{◌≡◌, refl}
use Prim.Native.Nat.{ℕ, ◌/◌}
use native.Mathlib.Omega.{arith}
use Rattle.arm.specs.Bits.{Replicate}
use Rattle.arm.proofs.Lengths.{at_element}
use Rattle.logical_decoder.proofs.copies.Goals as goal

pub returns-in-2 : goal.returns-in-2
unfolding Replicate
returns-in-2 c = rw c.in-2.is

pub returns-in-4 : goal.returns-in-4
unfolding Replicate
returns-in-4 c = rw c.in-4.is

pub returns-in-8 : goal.returns-in-8
unfolding Replicate
returns-in-8 c = rw c.in-8.is

pub returns-in-16 : goal.returns-in-16
unfolding Replicate
returns-in-16 c = rw c.in-16.is

pub returns-in-32 : goal.returns-in-32
unfolding Replicate
returns-in-32 c = rw c.in-32.is

pub returns-in_default : goal.returns-in_default
unfolding Replicate
returns-in_default c =
    at_element (λ (i : ℕ). (i ≡ c.args.e) → 1 ≡ Replicate i 1 (64 / i))
    (λ q. absurd (omega arith)) (λ q. absurd (omega arith)) (λ q. absurd (omega arith)) (λ q. absurd (omega arith)) (λ q. absurd (omega arith)) (λ q. refl)
    c.requires refl
