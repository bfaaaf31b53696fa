-- What `host_values::vaimalofo_is_float_imm8` says at each width. Assumes nothing.
use Rattle.std.proofs.Common.{◌≡◌, ℕ, ◌%◌, ◌^◌, refl, subst, inl, inr, arith}
use Rattle.arm.specs.Immediates.{VFPExpandImm}
use Rattle.words.specs.Said.{ok, no}
use Rattle.immediates.specs.Says.{Tests}
use Rattle.host_values.proofs.vaimalofo_is_float_imm8.Goals as goal

pub returns-in-16 : goal.returns-in-16
returns-in-16 c =
    let v = c.args.value in
    let width : c.args.width ≡ 16 = omega arith in
    let low : v % 2 ^ 32 % 2 ^ 16 ≡ v % 2 ^ 16 = omega arith in
    let tests = subst (λ (n : ℕ). Tests (VFPExpandImm 16) n c.is_fp16_imm8.result) low c.is_fp16_imm8.ensures in
    (ok c.is_fp16_imm8.result, rw width (inl refl, tests), c.yes.ensures)

pub returns-in-32 : goal.returns-in-32
returns-in-32 c =
    let width : c.args.width ≡ 32 = omega arith in
    (ok c.is_fp32_imm8.result, rw width (inr (inl refl), c.is_fp32_imm8.ensures), c.yes-in-32.ensures)

pub returns-in-64 : goal.returns-in-64
returns-in-64 c =
    let v = c.args.value in
    let width : c.args.width ≡ 64 = omega arith in
    let low : v % 2 ^ 64 ≡ v = omega arith in
    (ok c.is_fp64_imm8.result, rw (width, low) (inr (inr refl), c.is_fp64_imm8.ensures), c.yes-in-64.ensures)

pub returns-in_default : goal.returns-in_default
returns-in_default c = (no _, (λ w. omega arith, refl), c.refused.ensures)
