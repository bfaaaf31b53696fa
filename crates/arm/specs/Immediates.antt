-- Arm's VFPExpandImm (shared pseudocode): the float of N bits that an 8-bit immediate stands for; and the byte mask of AdvSIMDExpandImm.
-- Assumes nothing.
use Rattle.std.specs.Prelude.{cond, ℕ, zero, suc, ◌-◌, ◌/◌, eqb}
use Rattle.arm.specs.Bits.{bits, join, Replicate}

-- sign = imm8<7>; exp = NOT(imm8<6>) : Replicate(imm8<6>, E - 3) : imm8<5:4>; frac = imm8<3:0> : Zeros(F - 4); sign : exp : frac
abbrev pub VFPExpand : ℕ → ℕ → ℕ → ℕ
VFPExpand E F imm8 =
    let bit6 = bits 6 6 imm8 in
    let exp = join 2 (join (E - 3) (1 - bit6) (Replicate 1 bit6 (E - 3))) (bits 5 4 imm8) in
    let frac = join (F - 4) (bits 3 0 imm8) 0 in
    join F (join E (bits 7 7 imm8) exp) frac

-- E = if N == 16 then 5 elsif N == 32 then 8 else 11
abbrev pub exponent_bits : ℕ → ℕ
exponent_bits N = cond (eqb N 16) 5 (cond (eqb N 32) 8 11)

-- F = (N - E) - 1
unfoldable pub VFPExpandImm : ℕ → ℕ → ℕ
VFPExpandImm N imm8 = let E = exponent_bits N in VFPExpand E (N - E - 1) imm8

-- Replicate(imm8<n-1>, 8) : .. : Replicate(imm8<0>, 8): byte i is eight times bit i
unfoldable pub byte_masks : ℕ → ℕ → ℕ
byte_masks zero imm8 = 0
byte_masks (suc n) imm8 = join 8 (byte_masks n (imm8 / 2)) (Replicate 1 (bits 0 0 imm8) 8)

-- AdvSIMDExpandImm, op 1, cmode 1110
abbrev pub ByteMask : ℕ → ℕ
ByteMask imm8 = byte_masks 8 imm8
