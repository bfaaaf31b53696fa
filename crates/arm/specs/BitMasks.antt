-- Arm's DecodeBitMasks for immediates (shared pseudocode). The fields are N (one bit), imms and immr (six bits each), here n, s and r;
-- w is the width, 32 or 64. Assumes nothing.
use Rattle.std.specs.Prelude.{◌≡◌, cond, ◌⊎◌, ℕ, zero, suc, ◌+◌, ◌-◌, ◌/◌, ◌%◌, ◌^◌, ◌≤◌, ◌<◌, leb}
use Rattle.arm.specs.Bits.{join, Ones, Replicate, ROR}

-- HighestSetBit of a number below 2 ^ (k + 1): the greatest j up to k with 2 ^ j ≤ x. It is 0 at 0 too, where Arm has -1; both are below 1
unfoldable pub highest_set_bit : ℕ → ℕ → ℕ
highest_set_bit zero x = 0
highest_set_bit (suc k) x = cond (leb (2 ^ suc k) x) (suc k) (highest_set_bit k x)

-- len = HighestSetBit(N : NOT(imms))
unfoldable pub len : ℕ → ℕ → ℕ
unfolding highest_set_bit
len n s = highest_set_bit 6 (join 6 n (63 - s))

-- esize = 1 << len, the element length; the mask `levels` is esize - 1, so `x AND levels` is x % esize
unfoldable pub esize : ℕ → ℕ → ℕ
unfolding len
esize n s = 2 ^ len n s

abbrev pub IsWidth : ℕ → Type 0
IsWidth w = (w ≡ 32) ⊎ (w ≡ 64)

-- where Arm's decoder gives a mask: the fields have one, six and six bits, and nothing in it is undefined
pub record Legal (w n s r : ℕ) : Type 0 where
  pub n_bits : n ≤ 1
  pub s_bits : s ≤ 63
  pub r_bits : r ≤ 63
  -- if len < 1 then UNDEFINED
  pub some_len : 1 ≤ len n s
  -- if immediate && (imms AND levels) == levels then UNDEFINED
  pub not-all : s % esize n s + 1 < esize n s
  -- if sf == '0' && N != '0' then UNDEFINED
  pub narrow : w ≡ 32 → n ≡ 0

-- wmask = Replicate(ROR(ZeroExtend(Ones(S + 1), esize), R)), with S = imms AND levels, R = immr AND levels
unfoldable pub wmask : ℕ → ℕ → ℕ → ℕ → ℕ
unfolding esize Replicate
wmask w n s r = let e = esize n s in Replicate e (ROR e (Ones (s % e + 1)) (r % e)) (w / e)
