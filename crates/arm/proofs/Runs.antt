-- A run of ones repeated: the algebra of an element of any length e, and how the run is read back off its copies.
-- Assumes nothing.
use mathlib.Core.Path.{◌≡◌, refl, sym, ap, ap₂, ◌∙◌}
use Prim.Native.Nat.{ℕ, zero, suc, ◌+◌, ◌-◌, ◌*◌, ◌/◌, ◌%◌, ◌^◌, ◌≤◌, ◌<◌}
use native.Mathlib.Nat.{zero-add, mul-zero, mul-suc, pow-suc, add-sub_cancel, div-eq_of_lt, mod-eq_of_lt, lt_of_lt_of_le, sub-add_cancel, mul-le-mul_right, mul-one, mod-lt}
use native.Mathlib.Omega.{arith}
use lib.Pow.{pow_pos, pow-add, pow_mono, ones_lt, ones_split, high, low, shl_lt, shr_lt, shl-shr, split, le_ones, field, mod-mod-pow}
use lib.Count.{count_trailing_zeros, count_leading_zeros, leading_unique}
use Rattle.arm.specs.Bits.{Ones, ROR, Replicate}
use Rattle.arm.specs.BitMasks.{IsWidth}
use Rattle.arm.specs.Elements.{runs, IsRun}
use Rattle.arm.proofs.Lengths.{width_le, whole, once}
use Rattle.arm.proofs.Trailing.{Odd, zeros_at}

-- ---- copies

-- m copies of x are x times m copies of 1
pub copies : (e x m : ℕ) → Replicate e x m ≡ x * Replicate e 1 m
unfolding Replicate
copies e x zero = omega arith
copies e x (suc m) = rw (copies e x m) (omega arith)

-- m copies of e ones are e * m ones
pub all_ones : (e m : ℕ) → Replicate e 1 m * 2 ^ e + 1 ≡ Replicate e 1 m + 2 ^ (e * m)
unfolding Replicate
all_ones e zero = rw mul-zero (omega arith)
all_ones e (suc m) =
    let ih = ap (λ (t : ℕ). t * 2 ^ e) (all_ones e m) in
    rw (mul-suc, pow-add) (omega (arith, ih))

-- ---- one element

-- a run that does not reach past the top: it stands e - r places up
pub plain : (e l r : ℕ) → l ≤ r → ROR e (Ones l) r ≡ Ones l * 2 ^ (e - r)
plain e l r h =
    let small : Ones l < 2 ^ r = lt_of_lt_of_le (ones_lt l) (pow_mono h) in
    ap₂ (λ (x y : ℕ). x + y * 2 ^ (e - r)) (div-eq_of_lt small) (mod-eq_of_lt small) ∙ zero-add _

-- one more than k ones
pub one_more : (k : ℕ) → Ones k + 1 ≡ 2 ^ k
one_more k = sub-add_cancel (pow_pos k)

product : (x y z a b c : ℕ) → x + 1 ≡ a → y + 1 ≡ b → z + 1 ≡ c → x + y * (c * a) + z * a + 1 ≡ c * a * b
product x y z a b c ha hb hc = rw (← ha, ← hb, ← hc) (omega arith)

-- a run that reaches past the top, with t of its ones at the bottom and r at the top: the gap of c zeros stands t places up
pub wrapped : (c t r : ℕ) → ROR (c + t + r) (Ones (t + r)) r + Ones c * 2 ^ t ≡ Ones (c + t + r)
wrapped c t r =
    let body = product (Ones t) (Ones r) (Ones c) (2 ^ t) (2 ^ r) (2 ^ c) (one_more t) (one_more r) (one_more c) in
    let all : 2 ^ (c + t + r) ≡ 2 ^ c * 2 ^ t * 2 ^ r = rw (pow-add, pow-add) in
    rw (add-sub_cancel (c + t) r, ones_split t r, high (Ones t) r, low (Ones t) r, pow-add 2 c t, ones_lt r) (omega (arith, body, all))

-- ---- reading a run off its copies

odd_mul : {a b : ℕ} → Odd a → Odd b → Odd (a * b)
odd_mul ha hb = record { half = ha.half * hb.half * 2 + ha.half + hb.half; is = rw (ha.is, hb.is) (omega arith) }

-- a number with k more than 0 places of zeros, and 1 below
odd_above : (a k : ℕ) → 1 ≤ k → Odd (1 + a * 2 ^ k)
odd_above a zero h = absurd (omega arith)
odd_above a (suc k) h = record { half = a * 2 ^ k; is = rw pow-suc (omega arith) }

pub odd_ones : (k : ℕ) → 1 ≤ k → Odd (Ones k)
odd_ones zero h = absurd (omega arith)
odd_ones (suc k) h = record { half = Ones k; is = omega (arith, pow-suc 2 k, one_more k) }

-- the place of the lowest run and its length, in an element c zeros longer
module _ (c l p m : ℕ) (hc : 1 ≤ c) (hl : 1 ≤ l) where
  x-is : runs (c + l) (suc m) p l ≡ Ones l * Replicate (c + l) 1 (suc m) * 2 ^ p
  x-is = omega arith

  -- the number of copies above the lowest
  above : Ones l * Replicate (c + l) 1 (suc m) ≡ Ones l * Replicate (c + l) 1 m * 2 ^ c * 2 ^ l + Ones l
  unfolding Replicate
  above = rw pow-add (omega arith)

  odd_copies : Odd (Replicate (c + l) 1 (suc m))
  unfolding Replicate
  odd_copies = odd_above (Replicate (c + l) 1 m) (c + l) (omega arith)

  pub read-place : p < 64 → count_trailing_zeros 64 (runs (c + l) (suc m) p l) ≡ p
  read-place h = rw x-is (zeros_at 64 p h (odd_mul (odd_ones l hl) odd_copies))

  pub read_shift : runs (c + l) (suc m) p l / 2 ^ p ≡ Ones l * Replicate (c + l) 1 (suc m)
  read_shift = rw x-is (shl-shr _ p)

  pub read_length : l < 64 → count_trailing_zeros 64 (Ones l * Replicate (c + l) 1 (suc m) + 1) ≡ l
  read_length h =
      let next : Ones l * Replicate (c + l) 1 (suc m) + 1 ≡ (1 + Ones l * Replicate (c + l) 1 m * 2 ^ c) * 2 ^ l =
      omega (arith, above, one_more l) in
      rw next (zeros_at 64 l h (odd_above (Ones l * Replicate (c + l) 1 m) c hc))

-- ---- copies of any element a

-- one more copy, above the others
grow : (e m : ℕ) → Replicate e 1 (suc m) ≡ Replicate e 1 m + 2 ^ (e * m)
unfolding Replicate
grow e m = omega (arith, all_ones e m)

copies_lt : (e m a : ℕ) → a < 2 ^ e → a * Replicate e 1 m < 2 ^ (e * m)
copies_lt e m a h = omega (arith, mul-le-mul_right (Replicate e 1 m) h, all_ones e m)

-- turned by an element, copies are as they were
turned_copies : (e m a : ℕ) → a < 2 ^ e → ROR (e * suc m) (a * Replicate e 1 (suc m)) e ≡ a * Replicate e 1 (suc m)
unfolding Replicate
turned_copies e m a h =
    let g = Replicate e 1 m in
    let is : a * Replicate e 1 (suc m) ≡ a * g * 2 ^ e + a = omega arith in
    let rest : e * suc m - e ≡ e * m = omega (arith, mul-suc e m) in
    let all = ap (λ (k : ℕ). a * k) (all_ones e m) in
    rw (is, high (a * g) e h, low (a * g) e h, rest) (omega (arith, all))

pub turned_same : (w e m a x : ℕ) → e * suc m ≡ w → a < 2 ^ e → x ≡ a * Replicate e 1 (suc m) → ROR w x e ≡ x
turned_same w e m a x all h is = rw (is, ← all) (turned_copies e m a h)

-- and what is as it was is copies
pub fixed : (w e x : ℕ) → e ≤ w → x < 2 ^ w → ROR w x e ≡ x → x / 2 ^ e ≡ x % 2 ^ (w - e)
fixed w e x h small same =
    let w-is : w - e + e ≡ w = sub-add_cancel h in
    let up : x / 2 ^ e < 2 ^ (w - e) = shr_lt (w - e) e (rw w-is small) in
    let is : x ≡ x % 2 ^ e * 2 ^ (w - e) + x / 2 ^ e = omega arith in
    sym (ap (λ (k : ℕ). k % 2 ^ (w - e)) is ∙ low (x % 2 ^ e) (w - e) up)

pub periodic : (e m y : ℕ) → y < 2 ^ (e * suc m) → y / 2 ^ e ≡ y % 2 ^ (e * m) → y ≡ y % 2 ^ e * Replicate e 1 (suc m)
unfolding Replicate
periodic e zero y small same =
    let lone : y < 2 ^ e = rw (mul-one e) at small in
    rw (mod-eq_of_lt lone) (omega arith)
periodic e (suc m) y small same =
    let k = e * suc m in
    let k-is : k ≡ e * m + e = mul-suc e m in
    let y' = y % 2 ^ k in
    let same' : y' / 2 ^ e ≡ y' % 2 ^ (e * m) = rw (k-is, field y (e * m) e, ← k-is, same) refl in
    let low' : y' % 2 ^ e ≡ y % 2 ^ e = rw k-is (mod-mod-pow y (e * m) e) in
    let ih = periodic e m y' (mod-lt y (pow_pos k)) same' in
    let up = ap (λ (q : ℕ). q * 2 ^ e) (same ∙ ih ∙ ap (λ (q : ℕ). q * Replicate e 1 (suc m)) low') in
    omega (arith, up, split y e)

-- ---- the zeros above the top run

read_top : (e m p l : ℕ) → 1 ≤ l → p + l ≤ e → e - (p + l) ≡ count_leading_zeros (e * suc m) (runs e (suc m) p l)
read_top e m p zero hl h = absurd (omega arith)
read_top e m p (suc l) hl h =
    let a = Ones (suc l) * 2 ^ p in
    let q = 2 ^ (e * m) in
    let g = Replicate e 1 m in
    let up : a < 2 ^ (suc l + p) = shl_lt (suc l) p (ones_lt (suc l)) in
    let is : a * Replicate e 1 (suc m) ≡ a * g + a * q = rw (grow e m) (omega arith) in
    let low = copies_lt e m a (lt_of_lt_of_le up (pow_mono (omega arith))) in
    let pow : 2 ^ (suc l + p + e * m) ≡ 2 ^ (suc l + p) * q = pow-add 2 (suc l + p) (e * m) in
    let ones : 2 ^ (suc l + p) ≤ 2 * a = omega (arith, pow-add 2 (suc l) p, mul-le-mul_right (2 ^ p) (half l)) in
    leading_unique (e * suc m) (runs e (suc m) p (suc l)) (e - (p + suc l)) (suc l + p + e * m)
    (omega (arith, mul-suc e m))
    (omega (arith, is, low, pow, mul-le-mul_right q up))
    (omega (arith, is, pow, mul-le-mul_right q ones))
  where
    half : (l : ℕ) → 2 ^ suc l ≤ 2 * Ones (suc l)
    half l = omega (arith, pow-suc 2 l, pow_pos l)

-- ---- a run that is there is read
pub read_run : {w x e p l : ℕ} → IsWidth w → IsRun w x e p l
    → (count_trailing_zeros 64 x ≡ p) × (count_trailing_zeros 64 (x / 2 ^ p + 1) ≡ l) × (p + l + count_leading_zeros w x ≡ e)
read_run {w} {x} {e} {p} {l} ww h =
    let k = once h.element in
    go (e - l) k.0 (sub-add_cancel (omega arith)) (sym k.1)
  where
    go : (c m : ℕ) → c + l ≡ e → suc m ≡ w / e → (count_trailing_zeros 64 x ≡ p) × (count_trailing_zeros 64 (x / 2 ^ p + 1) ≡ l) × (p + l + count_leading_zeros w x ≡ e)
    go c m hc hm =
        let small : e ≤ 64 = omega (arith, width_le ww, h.element.fits) in
        let all : w ≡ (c + l) * suc m = rw (hc, hm) (sym (whole ww h.element)) in
        let is : x ≡ runs (c + l) (suc m) p l = rw (hc, hm) h.value in
        let hc1 : 1 ≤ c = omega arith in
        let y : x / 2 ^ p ≡ Ones l * Replicate (c + l) 1 (suc m) = rw is (read_shift c l p m hc1 h.some) in
        let top : c + l - (p + l) ≡ count_leading_zeros w x = rw (is, all) (read_top (c + l) m p l h.some (rw hc h.within)) in (
          rw is (read-place c l p m hc1 h.some (omega arith)),
          rw y (read_length c l p m hc1 h.some (omega arith)),
          omega arith,
        )

-- ---- copies of an element with a turned run

pub plain_copies : (e l r m : ℕ) → l ≤ r → Replicate e (ROR e (Ones l) r) m ≡ runs e m (e - r) l
plain_copies e l r m h = rw (copies e (ROR e (Ones l) r) m, plain e l r h)

wrapped_sum : (c t r m : ℕ) → Replicate (c + t + r) (ROR (c + t + r) (Ones (t + r)) r) m + runs (c + t + r) m t c ≡ Ones ((c + t + r) * m)
wrapped_sum c t r m =
    let e = c + t + r in
    let sum = ap (λ (k : ℕ). k * Replicate e 1 m) (wrapped c t r) in
    let one = ap (λ (k : ℕ). k * Replicate e 1 m) (one_more e) in
    rw (copies e (ROR e (Ones (t + r)) r) m) (omega (arith, sum, one, all_ones e m, one_more (e * m)))

pub wrapped_copies : (e l r m : ℕ) → r ≤ l → l ≤ e → Replicate e (ROR e (Ones l) r) m + runs e m (l - r) (e - l) ≡ Ones (e * m)
wrapped_copies e l r m h k =
    let l_is : l - r + r ≡ l = sub-add_cancel h in
    let e_is : e - l + (l - r) + r ≡ e = omega arith in
    rw (l_is, e_is) at (wrapped_sum (e - l) (l - r) r m)

-- ---- the size and the lowest bit of a run

pub bound : (w e m p l : ℕ) → e * m ≡ w → p + l ≤ e → runs e m p l ≤ Ones w
bound w e m p l hw h = le_ones w (rw hw at (copies_lt e m (Ones l * 2 ^ p) (lt_of_lt_of_le (shl_lt l p (ones_lt l)) (pow_mono (omega arith)))))

pub run_le : {w x e p l : ℕ} → IsWidth w → IsRun w x e p l → x ≤ Ones w
run_le {w} {x} {e} {p} {l} ww h = rw h.value (bound w e (w / e) p l (whole ww h.element) h.within)

pub run_even : {w x e p l : ℕ} → IsRun w x e p l → x % 2 ≡ 0
run_even {p = zero} h = absurd (omega arith)
run_even {w} {x} {e} {p = suc p} {l} h =
    let is : x ≡ Ones l * 2 ^ p * Replicate e 1 (w / e) * 2 = h.value ∙ rw pow-suc (omega arith) in
    omega arith

-- a value is a run in one way only
pub run_unique : {w x e p l e' p' l' : ℕ} → IsWidth w → IsRun w x e p l → IsRun w x e' p' l' → (e ≡ e') × (p ≡ p') × (l ≡ l')
run_unique {w} {x} {e} {p} {l} {e'} {p'} {l'} ww h h' =
    let a = read_run ww h in
    let a' = read_run ww h' in
    let p_is : p ≡ p' = sym a.0 ∙ a'.0 in
    let l_is : l ≡ l' = sym a.1 ∙ rw p_is a'.1 in
    (sym a.2 ∙ rw (p_is, l_is) a'.2, p_is, l_is)
