-- The table's rule, and the field of a word at a format: what is put is read, and the rest is kept. Assumes nothing.
use Rattle.std.proofs.Common.{◌≡◌, ℕ, ◌+◌, ◌-◌, ◌*◌, ◌/◌, ◌%◌, ◌^◌, ◌<◌, ◌≤◌, min, ◌⊎◌, ap, ◌∙◌, ⊎_elim, lt_of_lt_of_le, add-zero, mod-lt, eq-zero-or-pos, mul-pos, mul-one, arith, pow_pos, pow_mono, shl_lt, shl_exact, shr_lt, rules}
use native.Mathlib.Nat.{mod-one}
use lib.Arith.{digits_lt}
use lib.Pow.{split}
use Rattle.arm.proofs.SignExtends.{power}
use Rattle.words.proofs.Fields.{part, part_below, part_there, part_above, high_kept}
use Rattle.words.proofs.Low.{least_below}
use Rattle.forms.proofs.Formats.{each}
use Rattle.displacements.specs.Forms.{Form, form_of, field_in, put_in, step}
use Rattle.displacements.specs.Answer.{offset}
use Rattle.displacements.specs.Private.{offset_in, Sound}

-- ---- the table

pub sound : (n : ℕ) → n < 6 → Sound (form_of n)
sound = each (λ n. Sound (form_of n)) (search rules) (search rules) (search rules) (search rules) (search rules) (search rules)

-- the table's reading is Arm's
pub arm_reads : (w n : ℕ) → n < 6 → offset_in (form_of n) w ≡ offset n w
arm_reads w =
    each (λ n. offset_in (form_of n) w ≡ offset n w)
    (simp (mod-one, mul-one, add-zero)) (simp (mod-one, mul-one, add-zero)) (simp (mod-one, mul-one, add-zero)) (simp mul-one) (simp add-zero) (simp (mod-one, mul-one, add-zero))

-- ---- a field in two parts

-- the slice of l bits at bit q is no part of the field, which may have no low bits
pub record Outside (f : Form) (q l : ℕ) : Type 0 where
  pub rest : (q + l ≤ f.at) ⊎ (f.at + (f.bits - f.low) ≤ q)
  pub lows : (f.low ≡ 0) ⊎ (q + l ≤ 29) ⊎ (29 + f.low ≤ q)

module _ (f : Form) (s : Sound f) where
  pub field_lt : (w : ℕ) → field_in f w < 2 ^ f.bits
  field_lt w = rw (power f.low f.bits s.parts) (digits_lt (mod-lt (w / 2 ^ f.at) (pow_pos (f.bits - f.low))) (mod-lt (w / 2 ^ 29) (pow_pos f.low)))

  rest_lt : (v : ℕ) → v < 2 ^ f.bits → v / 2 ^ f.low < 2 ^ (f.bits - f.low)
  rest_lt v h = let e : f.bits - f.low + f.low ≡ f.bits = omega arith in shr_lt (f.bits - f.low) f.low (rw e h)

  pub field_small : (w : ℕ) → field_in f w < 2 ^ 63
  field_small w = lt_of_lt_of_le (field_lt w) (pow_mono {j = 63} (omega arith))

  -- as the code makes them, by low bits and shifts of 64 bits
  pub field_made : (w x y : ℕ) → x ≡ w / 2 ^ f.at % 2 ^ min (f.bits - f.low) 64 → y ≡ w / 2 ^ 29 % 2 ^ min f.low 64 → x * 2 ^ f.low % 2 ^ 64 + y ≡ field_in f w
  field_made w x y ex ey =
      let a : x ≡ part f.at (f.bits - f.low) w = rw (least_below {n = f.bits - f.low} (omega arith)) at ex in
      let b : y ≡ part 29 f.low w = rw (least_below {n = f.low} (omega arith)) at ey in
      let small : x < 2 ^ (f.bits - f.low) = rw a (mod-lt (w / 2 ^ f.at) (pow_pos (f.bits - f.low))) in
      rw (shl_exact (f.bits - f.low) f.low 64 small (omega arith), a, b)

  pub rest_made : (v : ℕ) → v < 2 ^ f.bits → v / 2 ^ f.low * 2 ^ f.at % 2 ^ 64 ≡ v / 2 ^ f.low * 2 ^ f.at
  rest_made v h = shl_exact (f.bits - f.low) f.at 64 (rest_lt v h) (omega arith)

  pub put_made : (w v y : ℕ) → v < 2 ^ f.bits → y ≡ v % 2 ^ min f.low 64 → w + v / 2 ^ f.low * 2 ^ f.at % 2 ^ 64 + y * 2 ^ 29 % 2 ^ 64 ≡ put_in f w v
  put_made w v y h ey =
      let e : y ≡ v % 2 ^ f.low = rw (least_below {n = f.low} (omega arith)) at ey in
      let small : y < 2 ^ f.low = rw e (mod-lt v (pow_pos f.low)) in
      rw (rest_made v h, shl_exact f.low 29 64 small (omega arith), e)

  pub offset_made : (w x : ℕ) → x ≡ field_in f w → x * 2 ^ f.scale % 2 ^ 64 ≡ field_in f w * step f
  offset_made w x e = rw (e, shl_exact f.bits f.scale 64 (field_lt w) (omega arith))

  pub offset_lt : (w : ℕ) → field_in f w * step f < 2 ^ (f.bits + f.scale)
  offset_lt w = shl_lt f.bits f.scale (field_lt w)

  module _ (w : ℕ) (free : field_in f w ≡ 0) where
    pub rest_free : part f.at (f.bits - f.low) w ≡ 0
    rest_free = go (eq-zero-or-pos (part f.at (f.bits - f.low) w))
      where
        go : (part f.at (f.bits - f.low) w ≡ 0) ⊎ (0 < part f.at (f.bits - f.low) w) → part f.at (f.bits - f.low) w ≡ 0
        go = ⊎_elim (λ e. e) (λ h. absurd (omega (arith, mul-pos h (pow_pos f.low))))

    pub lows_free : part 29 f.low w ≡ 0
    lows_free = omega arith

  module _ (w v : ℕ) (free : field_in f w ≡ 0) (fits : v < 2 ^ f.bits) where
    rest-fits : v / 2 ^ f.low < 2 ^ (f.bits - f.low)
    rest-fits = rest_lt v fits

    lows_fits : v % 2 ^ f.low < 2 ^ f.low
    lows_fits = mod-lt v (pow_pos f.low)

    -- the word with the rest in it
    abbrev mid : ℕ
    mid = w + v / 2 ^ f.low * 2 ^ f.at

    mid_free : part 29 f.low mid ≡ 0
    mid_free = part_above f.at (f.bits - f.low) w (v / 2 ^ f.low) (rest_free w free) rest-fits 29 f.low s.apart ∙ lows_free w free

    pub put_there : field_in f (put_in f w v) ≡ v
    put_there =
        let a : part f.at (f.bits - f.low) (put_in f w v) ≡ v / 2 ^ f.low =
        part_below 29 f.at (f.bits - f.low) mid (v % 2 ^ f.low) s.apart ∙ part_there f.at (f.bits - f.low) w (v / 2 ^ f.low) (rest_free w free) rest-fits in
        let b : part 29 f.low (put_in f w v) ≡ v % 2 ^ f.low =
        part_there 29 f.low mid (v % 2 ^ f.low) mid_free lows_fits in
        rw (a, b) (split v f.low)

    -- no low bits, nothing at bit 29
    none_low : f.low ≡ 0 → put_in f w v ≡ mid
    none_low z = let none : v % 2 ^ f.low ≡ 0 = ap (λ (k : ℕ). v % 2 ^ k) z ∙ mod-one v in rw none (omega arith)

    pub put_kept : (q l : ℕ) → Outside f q l → part q l (put_in f w v) ≡ part q l w
    put_kept q l o =
        ⊎_elim (λ z. ap (part q l) (none_low z)) (⊎_elim (part_below 29 q l mid (v % 2 ^ f.low)) (part_above 29 f.low mid (v % 2 ^ f.low) mid_free lows_fits q l)) o.lows
        ∙ ⊎_elim (part_below f.at q l w (v / 2 ^ f.low)) (part_above f.at (f.bits - f.low) w (v / 2 ^ f.low) (rest_free w free) rest-fits q l) o.rest

    -- nothing is carried out of the word
    put_high : put_in f w v / 2 ^ 32 ≡ w / 2 ^ 32
    put_high =
        high_kept 29 f.low mid (v % 2 ^ f.low) mid_free lows_fits 32 (omega arith)
        ∙ high_kept f.at (f.bits - f.low) w (v / 2 ^ f.low) (rest_free w free) rest-fits 32 (omega arith)

    pub put_fits : w < 2 ^ 32 → put_in f w v < 2 ^ 32
    put_fits h = omega (arith, put_high)
