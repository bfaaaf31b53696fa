-- A field of n bits at bit p of a word w, put there as w + g * 2 ^ p: it reads as g, and every other part of the word as before; taken out of the
-- word it is clear; and a field is clear exactly if each of its bits is. Assumes nothing.
use Rattle.std.proofs.Common.{◌≡◌, ℕ, zero, suc, ◌+◌, ◌-◌, ◌*◌, ◌/◌, ◌%◌, ◌^◌, ◌<◌, ◌≤◌, sym, refl, ap, ◌∙◌, mod-lt, div-add-mod', arith, pow_pos, pow-add, shr-shr}
use native.Mathlib.Nat.{add-mul-div_right, add-mul-mod_self_right, zero-div, mod-one}
use lib.Arith.{digits_div, digits_mod}
use lib.Pow.{field, mod-mod-pow, mod-pow-add}

-- the slice of l bits at bit q
abbrev pub part : ℕ → ℕ → ℕ → ℕ
part q l w = w / 2 ^ q % 2 ^ l

-- a slice of a slice
pub part-part : (p n q l w : ℕ) → p ≤ q → q + l ≤ p + n → part (q - p) l (part p n w) ≡ part q l w
part-part p n q l w lo hi =
    let a : n ≡ n - (q - p) + (q - p) = omega arith in
    let b : n - (q - p) ≡ n - (q - p) - l + l = omega arith in
    let c : p + (q - p) ≡ q = omega arith in
    let x = w / 2 ^ p in
    let cut : x % 2 ^ n / 2 ^ (q - p) ≡ x / 2 ^ (q - p) % 2 ^ (n - (q - p)) = ap (λ (k : ℕ). x % 2 ^ k / 2 ^ (q - p)) a ∙ field x (n - (q - p)) (q - p) in
    ap (λ (v : ℕ). v % 2 ^ l) cut
    ∙ ap (λ (k : ℕ). x / 2 ^ (q - p) % 2 ^ k % 2 ^ l) b
    ∙ mod-mod-pow (x / 2 ^ (q - p)) (n - (q - p) - l) l
    ∙ ap (λ (v : ℕ). v % 2 ^ l) (shr-shr w p (q - p) ∙ ap (λ (k : ℕ). w / 2 ^ k) c)

-- a slice that ends at or below the field
pub part_below : (p q l w g : ℕ) → q + l ≤ p → part q l (w + g * 2 ^ p) ≡ part q l w
part_below p q l w g h =
    let e : p ≡ p - (q + l) + (l + q) = omega arith in
    let f : g * 2 ^ p ≡ g * 2 ^ (p - (q + l)) * 2 ^ l * 2 ^ q =
    ap (λ (k : ℕ). g * 2 ^ k) e ∙ simp (pow-add 2 (p - (q + l)) (l + q), pow-add 2 l q) (omega arith) in
    rw (f, add-mul-div_right w (g * 2 ^ (p - (q + l)) * 2 ^ l) (pow_pos q)) (add-mul-mod_self_right (w / 2 ^ q) (g * 2 ^ (p - (q + l))) (2 ^ l))

module _ (p n w g : ℕ) (free : part p n w ≡ 0) (fits : g < 2 ^ n) where
  -- the field over what stands above it
  whole : (w + g * 2 ^ p) / 2 ^ p ≡ w / 2 ^ p / 2 ^ n * 2 ^ n + g
  whole = add-mul-div_right w g (pow_pos p) ∙ omega (arith, div-add-mod' (w / 2 ^ p) (2 ^ n))

  pub part_there : part p n (w + g * 2 ^ p) ≡ g
  part_there = rw whole (digits_mod (w / 2 ^ p / 2 ^ n) fits)

  -- what stands at or above the field's end
  pub high_kept : (q : ℕ) → p + n ≤ q → (w + g * 2 ^ p) / 2 ^ q ≡ w / 2 ^ q
  high_kept q h =
      let e : p + n + (q - (p + n)) ≡ q = omega arith in
      let at : (v : ℕ) → v / 2 ^ p / 2 ^ n / 2 ^ (q - (p + n)) ≡ v / 2 ^ q = λ v. rw (shr-shr v p n, shr-shr v (p + n) (q - (p + n)), e) refl in
      sym (at (w + g * 2 ^ p)) ∙ rw (whole, digits_div (w / 2 ^ p / 2 ^ n) fits) (at w)

  pub part_above : (q l : ℕ) → p + n ≤ q → part q l (w + g * 2 ^ p) ≡ part q l w
  part_above q l h = ap (λ (v : ℕ). v % 2 ^ l) (high_kept q h)

-- ---- a field taken out of the word

module _ (p n w : ℕ) where
  -- the word as what stands above the part, the part, and what stands below
  abbrev above : ℕ
  above = w / 2 ^ p / 2 ^ n

  parts : w ≡ (above * 2 ^ n + part p n w) * 2 ^ p + w % 2 ^ p
  parts = sym (div-add-mod' w (2 ^ p)) ∙ ap (λ (q : ℕ). q * 2 ^ p + w % 2 ^ p) (sym (div-add-mod' (w / 2 ^ p) (2 ^ n)))

  pub part_le : part p n w * 2 ^ p ≤ w
  part_le = omega (arith, parts)

  rest : w - part p n w * 2 ^ p ≡ above * 2 ^ n * 2 ^ p + w % 2 ^ p
  rest = omega (arith, parts)

  pub taken_out : part p n (w - part p n w * 2 ^ p) ≡ 0
  taken_out = rw (rest, digits_div (above * 2 ^ n) (mod-lt w (pow_pos p))) (ap (λ (x : ℕ). x % 2 ^ n) (sym (omega arith)) ∙ digits_mod above (pow_pos n))

-- ---- a field and its bits

-- bit q of a word
abbrev pub bit : ℕ → ℕ → ℕ
bit q w = part q 1 w

pub bit_of_clear : (p n w : ℕ) → part p n w ≡ 0 → (q : ℕ) → p ≤ q → q < p + n → bit q w ≡ 0
bit_of_clear p n w e q lo hi = sym (part-part p n q 1 w lo (omega arith)) ∙ ap (part (q - p) 1) e ∙ ap (λ (v : ℕ). v % 2 ^ 1) (zero-div (2 ^ (q - p)))

pub clear_of_bits : (p n w : ℕ) → ((q : ℕ) → p ≤ q → q < p + n → bit q w ≡ 0) → part p n w ≡ 0
clear_of_bits p zero w h = mod-one (w / 2 ^ p)
clear_of_bits p (suc n) w h =
    let below = clear_of_bits p n w (λ q lo hi. h q lo (omega arith)) in
    let top : w / 2 ^ p / 2 ^ n % 2 ^ 1 ≡ 0 = ap (λ (v : ℕ). v % 2 ^ 1) (shr-shr w p n) ∙ h (p + n) (omega arith) (omega arith) in
    let more : suc n ≡ 1 + n = omega arith in
    ap (λ (k : ℕ). w / 2 ^ p % 2 ^ k) more ∙ mod-pow-add (w / 2 ^ p) 1 n ∙ rw (top, below) (omega arith)
