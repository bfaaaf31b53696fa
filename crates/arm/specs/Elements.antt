-- A value as copies of an element with one run of ones: what the laws of DecodeBitMasks and the contracts of private functions speak of. None of it is
-- Arm's, and no public entry's contract cites it. Assumes nothing.
use Rattle.std.specs.Prelude.{◌≡◌, ℕ, ◌+◌, ◌-◌, ◌*◌, ◌/◌, ◌%◌, ◌^◌, ◌≤◌}
use Rattle.arm.specs.Bits.{Ones, Replicate}

-- an element length at width w: 2, 4, 8, .. up to w
pub record Element (w e : ℕ) : Type 0 where
  pub log : ℕ
  pub log_low : 1 ≤ log
  pub log_high : log ≤ 6
  pub is : e ≡ 2 ^ log
  pub fits : e ≤ w

-- m copies of an element of e bits, in which l ones stand p places up
abbrev pub runs : ℕ → ℕ → ℕ → ℕ → ℕ
runs e m p l = Ones l * 2 ^ p * Replicate e 1 m

-- x, whose lowest bit is 0, is the w bits of such copies
pub record IsRun (w x e p l : ℕ) : Type 0 where
  pub element : Element w e
  pub up : 1 ≤ p
  pub some : 1 ≤ l
  pub within : p + l ≤ e
  pub value : x ≡ runs e (w / e) p l

-- the fields N and S of a run of l ones in an element of e bits
abbrev pub n_of : ℕ → ℕ
n_of e = e / 64

abbrev pub s_of : ℕ → ℕ → ℕ
s_of e l = (127 + l - 2 * e) % 64
