-- The answers of `immediates::encode_fp`. Assumes nothing.
use mathlib.Core.Path.{◌≡◌, sym, ap, ◌∙◌}
use Prim.Native.Nat.{ℕ, ◌+◌, ◌-◌, ◌*◌, ◌/◌, ◌%◌, ◌^◌, ◌≤◌, ◌<◌}
use native.Mathlib.Nat.{mul-le-mul_right, one-mul}
use native.Mathlib.Omega.{arith}
use lib.Pow.{pow-add, pow_mono, pow_pos, shl_exact}
use Rattle.arm.specs.Imm8.{read_float, float_sum}
use Rattle.arm.proofs.Expand.{read_below}
use Rattle.immediates.proofs.Laws.{fp}
use Rattle.immediates.proofs.encode_fp.Goals as goal

-- the parts of the sum, as code shifts them: no bit is shifted out
module _ (E F b : ℕ) (h : (4 ≤ E) × (4 ≤ F) × (E + F < 64)) (few : b < 256) where
  sign : b / 128 * 2 ^ (E + F) % 2 ^ 64 ≡ b / 128 * 2 ^ (E + F)
  sign = shl_exact 1 (E + F) 64 (omega arith) (omega (arith, h.2))

  top : 1 * 2 ^ (E + F - 1) % 2 ^ 64 ≡ 2 ^ (E + F - 1)
  top = shl_exact 1 (E + F - 1) 64 (omega arith) (omega (arith, h.2)) ∙ one-mul (2 ^ (E + F - 1))

  run : b / 64 % 2 * 2 ^ (F - 4 + 6) % 2 ^ 64 ≡ b / 64 % 2 * 2 ^ (F - 4 + 6)
  run = shl_exact 1 (F - 4 + 6) 64 (omega arith) (omega (arith, h.0, h.1, h.2))

  rest : b % 64 * 2 ^ (F - 4) % 2 ^ 64 ≡ b % 64 * 2 ^ (F - 4)
  rest = shl_exact 6 (F - 4) 64 (omega arith) (omega (arith, h.0, h.1, h.2))

  sign_le : b / 128 * 2 ^ (E + F) ≤ 2 ^ (E + F)
  sign_le = rw (one-mul (2 ^ (E + F))) at (mul-le-mul_right {m = b / 128} {n = 1} (2 ^ (E + F)) (omega arith))

  run_le : b / 64 % 2 * 2 ^ (F - 4 + 6) ≤ 2 ^ (E + F - 1)
  run_le =
      let one = mul-le-mul_right {m = b / 64 % 2} {n = 1} (2 ^ (F - 4 + 6)) (omega arith) in
      let up : 2 ^ (F - 4 + 6) ≤ 2 ^ (E + F - 1) = pow_mono (omega (arith, h.0, h.1)) in
      omega (arith, one, up)

  rest_lt : b % 64 * 2 ^ (F - 4) < 2 ^ (E + F - 1)
  rest_lt =
      let most = mul-le-mul_right {m = b % 64} {n = 63} (2 ^ (F - 4)) (omega arith) in
      let up : 2 ^ (F - 4 + 6) ≤ 2 ^ (E + F - 1) = pow_mono (omega (arith, h.0, h.1)) in
      omega (arith, most, up, pow-add 2 (F - 4) 6, pow_pos (F - 4))

  abbrev summed : ℕ
  summed = b / 128 * 2 ^ (E + F) + (2 ^ (E + F - 1) - b / 64 % 2 * 2 ^ (F - 4 + 6)) + b % 64 * 2 ^ (F - 4)

  fits : summed < 2 ^ 64
  fits =
      let at : E + F - 1 + 1 ≡ E + F = omega (arith, h.0) in
      let half : 2 ^ (E + F - 1) * 2 ^ 1 ≡ 2 ^ (E + F) = sym (pow-add 2 (E + F - 1) 1) ∙ ap (λ (n : ℕ). 2 ^ n) at in
      let high : 2 ^ (E + F) ≤ 2 ^ 63 = pow_mono {j = 63} (omega (arith, h.2)) in
      omega (arith, sign_le, rest_lt, half, high)

  sum_is : summed ≡ float_sum (E - 4) (F - 4) b
  sum_is =
      let e : E - 4 + (F - 4) + 8 ≡ E + F = omega (arith, h.0, h.1) in
      let f : E - 4 + (F - 4) + 7 ≡ E + F - 1 = omega (arith, h.0, h.1) in
      rw (e, f)

pub overflow_sub-e-2 : goal.overflow_sub-e-2
overflow_sub-e-2 g c =
    let b = read_float g.row.E g.row.F c.args.val in
    let few = read_below g.row.E g.row.F c.args.val in
    rw (top _ _ b c.requires few, run _ _ b c.requires few) (run_le _ _ b c.requires few)

pub overflow_add-e-2 : goal.overflow_add-e-2
overflow_add-e-2 g c =
    let b = read_float g.row.E g.row.F c.args.val in
    let few = read_below g.row.E g.row.F c.args.val in
    rw (sign _ _ b c.requires few, top _ _ b c.requires few, run _ _ b c.requires few)
    (record { fits = omega (arith, fits _ _ b c.requires few) })

pub overflow_add-e-3 : goal.overflow_add-e-3
overflow_add-e-3 g c =
    let b = read_float g.row.E g.row.F c.args.val in
    let few = read_below g.row.E g.row.F c.args.val in
    rw (sign _ _ b c.requires few, top _ _ b c.requires few, run _ _ b c.requires few, rest _ _ b c.requires few)
    (record { fits = fits _ _ b c.requires few })

pub returns : goal.returns
returns g c =
    let b = read_float g.row.E g.row.F c.args.val in
    let few = read_below g.row.E g.row.F c.args.val in
    rw (
      c.settle.ensures,
      sign _ _ b c.requires few,
      top _ _ b c.requires few,
      run _ _ b c.requires few,
      rest _ _ b c.requires few,
      sum_is _ _ b c.requires few,
    )
    (fp c.requires.0 c.requires.1 c.args.val)
