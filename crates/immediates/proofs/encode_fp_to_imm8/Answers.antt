-- The answers of `immediates::encode_fp_to_imm8`. Assumes nothing.
use mathlib.Core.Path.{refl}
use mathlib.Core.Logic.{inl, inr, ⊎_elim}
use Prim.Native.Nat.{◌^◌}
use native.Mathlib.Nat.{mod-eq_of_lt}
use native.Mathlib.Omega.{arith}
use Rattle.arm.specs.Immediates.{VFPExpandImm}
use Rattle.immediates.specs.Says.{FloatSays}
use Rattle.immediates.proofs.encode_fp_to_imm8.Goals as goal

pub returns-in-16 : goal.returns-in-16
unfolding FloatSays VFPExpandImm
returns-in-16 c = rw c.in-16.is (inl (inl refl, c.encode_fp.ensures))

pub returns-in-32 : goal.returns-in-32
unfolding FloatSays VFPExpandImm
returns-in-32 c = rw c.in-32.is (inl (inr (inl refl), c.encode_fp-in-32.ensures))

pub returns-in-64 : goal.returns-in-64
unfolding FloatSays VFPExpandImm
returns-in-64 c = rw (c.in-64.is, mod-eq_of_lt {n = c.args.val} {m = 2 ^ 64} (omega arith)) (inl (inr (inr refl), c.encode_fp-in-64.ensures))

pub returns-in_default : goal.returns-in_default
unfolding FloatSays
returns-in_default c = inr (⊎_elim (λ q. omega arith) (⊎_elim (λ q. omega arith) (λ q. omega arith)), refl)
