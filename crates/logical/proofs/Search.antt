-- What the search for a run has read off a value, and what follows from it. Assumes nothing.
use mathlib.Core.Path.{◌≡◌, sym, ap, ◌∙◌}
use Prim.Native.Nat.{ℕ, zero, suc, ◌+◌, ◌-◌, ◌*◌, ◌/◌, ◌%◌, ◌^◌, ◌≤◌, ◌<◌}
use native.Mathlib.Nat.{div-le_self, lt_of_le_of_lt, lt_of_lt_of_le, lt_of_mul-lt-mul_right, lt_irrefl, mod-eq_of_lt, mul-le-mul_right, mul-suc, pos_of_ne-zero, pow-suc, zero-mul}
use native.Mathlib.Omega.{arith}
use lib.Count.{count_trailing_zeros, trailing_of_zero, count_leading_zeros, leading_length}
use lib.Pow.{high, low, mod-mod-pow, ones_lt, pow-add, pow_mono, pow_pos, shl_lt}
use Rattle.arm.specs.Bits.{Ones, ROR, Replicate}
use Rattle.arm.specs.BitMasks.{IsWidth}
use Rattle.arm.specs.Elements.{Element, IsRun}
use Rattle.arm.proofs.Lengths.{once, whole, width_le}
use Rattle.arm.proofs.Runs.{fixed, one_more, periodic, read_run, turned_same}
use Rattle.arm.proofs.Trailing.{pow_lt_back, zeros_le, zeros_some, zeros_split}

pub zero_none : {w x : ℕ} → IsWidth w → x ≡ 0 → (e p l : ℕ) → IsRun w x e p l → ⊥
zero_none {w} {x} ww q e p l h =
    let place : p ≡ 64 = sym (read_run ww h).0 ∙ rw q (trailing_of_zero 64) in
    omega (arith, width_le ww, h.element.fits)

-- a number with l ones at the bottom, one less than a multiple of 2 ^ l
low_run : (a l y : ℕ) → a * 2 ^ l ≡ y + 1 → y ≡ y / 2 ^ l * 2 ^ l + Ones l
low_run zero l y q = absurd (omega arith)
low_run (suc a) l y q =
    let is : y ≡ a * 2 ^ l + Ones l = omega (arith, one_more l) in
    let above : y / 2 ^ l ≡ a = rw is (high a l (ones_lt l)) in
    rw above is

-- a number below 2 ^ m with l ones, p places up, has no fewer than p + l places
reach : (l p m x : ℕ) → 2 ^ p ≤ x → Ones l * 2 ^ p ≤ x → x < 2 ^ m → p + l ≤ m
reach zero p m x place run small = omega (arith, pow_lt_back p m (lt_of_le_of_lt place small))
reach (suc l) p m x place run small =
    let half : 2 ^ l ≤ Ones (suc l) = omega (arith, pow-suc 2 l, pow_pos l) in
    let top : 2 ^ (l + p) ≤ x = omega (arith, pow-add 2 l p, mul-le-mul_right (2 ^ p) half) in
    omega (arith, pow_lt_back (l + p) m (lt_of_le_of_lt top small))

-- an even x that is not 0, the place p of its lowest run, that run's length l, and the two with the zeros at both ends
pub record Seen (w x p l e : ℕ) : Type 0 where
  pub width : IsWidth w
  pub small : x < 2 ^ w
  pub pos : 0 < x
  pub even : x % 2 ≡ 0
  pub p_is : p ≡ count_trailing_zeros 64 x
  pub l_is : l ≡ count_trailing_zeros 64 (x / 2 ^ p + 1)
  pub e_is : e ≡ p + l + count_leading_zeros w x

module _ {w x p l e : ℕ} (t : Seen w x p l e) where
  x_fits : x < 2 ^ 64
  x_fits = lt_of_lt_of_le t.small (pow_mono (width_le t.width))

  -- the lowest run, and what stands above it
  x-is : x ≡ x / 2 ^ p / 2 ^ l * 2 ^ (l + p) + Ones l * 2 ^ p
  x-is =
      let y = x / 2 ^ p in
      let shifted : x ≡ y * 2 ^ p = rw t.p_is (sym (zeros_split 64 x t.pos x_fits)) in
      let fits : y + 1 < 2 ^ 64 = omega (arith, div-le_self x (2 ^ p), x_fits, t.even) in
      let lowest = low_run ((y + 1) / 2 ^ l) l y (rw t.l_is (zeros_split 64 (y + 1) (omega arith) fits)) in
      rw pow-add (omega (arith, shifted, ap (λ (k : ℕ). k * 2 ^ p) lowest))

  low_part : x % 2 ^ (l + p) ≡ Ones l * 2 ^ p
  low_part = ap (λ (k : ℕ). k % 2 ^ (l + p)) x-is ∙ low (x / 2 ^ p / 2 ^ l) (l + p) (shl_lt l p (ones_lt l))

  pub e_low : e ≤ w
  e_low =
      let m = leading_length w x t.small in
      let place : 2 ^ p ≤ x = rw t.p_is (zeros_le 64 x t.pos x_fits) in
      omega (arith, m.1, t.e_is, reach l p m.0 x place (omega (arith, x-is)) m.2)

  pub e_pos : 0 < e
  e_pos = omega (arith, t.e_is, t.p_is, zeros_some 63 x t.even)

  -- turned by e, the value is as it was: its elements are one run each
  pub a_run : Element w e → ROR w x e ≡ x → IsRun w x e p l
  a_run el same =
      let k = once el in
      let all : e * suc k.0 ≡ w = rw (← k.1) (whole t.width el) in
      let rest : w - e ≡ e * k.0 = omega (arith, all, mul-suc e k.0) in
      let copied = periodic e k.0 x (rw all t.small) (rw rest at (fixed w e x el.fits t.small same)) in
      let m = leading_length w x t.small in
      let m-is : m.0 ≡ l + p + (w - e) = omega (arith, m.1, t.e_is, el.fits) in
      let pow : 2 ^ m.0 ≡ 2 ^ (l + p) * 2 ^ (w - e) = rw m-is (pow-add 2 (l + p) (w - e)) in
      let short : x % 2 ^ e < 2 ^ (l + p) = lt_of_mul-lt-mul_right (2 ^ (w - e)) (omega (arith, pow, m.2, same)) in
      let e_is : e ≡ count_leading_zeros w x + (l + p) = omega (arith, t.e_is) in
      let cut : x % 2 ^ e % 2 ^ (l + p) ≡ x % 2 ^ (l + p) = rw e_is (mod-mod-pow x (count_leading_zeros w x) (l + p)) in
      let elem : x % 2 ^ e ≡ Ones l * 2 ^ p = sym (mod-eq_of_lt short) ∙ cut ∙ low_part in
      let value : x ≡ Ones l * 2 ^ p * Replicate e 1 (suc k.0) = rw elem at copied in
      let none : l ≡ 0 → ⊥ = λ z. lt_irrefl 0 (rw (value, z, zero-mul (2 ^ p), zero-mul (Replicate e 1 (suc k.0))) at t.pos) in
      record {
        element = el;
        up = rw t.p_is (zeros_some 63 x t.even);
        some = pos_of_ne-zero none;
        within = omega (arith, t.e_is);
        value = rw k.1 value;
      }

  pub no_run : (Element w e → ROR w x e ≡ x → ⊥) → (e' p' l' : ℕ) → IsRun w x e' p' l' → ⊥
  no_run never e' p' l' h =
      let a = read_run t.width h in
      let p_is : p' ≡ p = sym a.0 ∙ sym t.p_is in
      let l_is : l' ≡ l = sym a.1 ∙ rw p_is (sym t.l_is) in
      let e_is : e' ≡ e = omega (arith, a.2, t.e_is) in
      let r = rw (p_is, l_is, e_is) at h in
      let k = once r.element in
      let all : e * suc k.0 ≡ w = rw (← k.1) (whole t.width r.element) in
      let value : x ≡ Ones l * 2 ^ p * Replicate e 1 (suc k.0) = rw (← k.1) r.value in
      let up : Ones l * 2 ^ p < 2 ^ e = lt_of_lt_of_le (shl_lt l p (ones_lt l)) (pow_mono (omega (arith, r.within))) in
      never r.element (turned_same w e k.0 (Ones l * 2 ^ p) x all up value)
