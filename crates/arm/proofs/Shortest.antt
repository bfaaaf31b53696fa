-- The element length of a mask is the shortest length at which its bits repeat. Assumes nothing.
use mathlib.Core.Path.{◌≡◌, refl, sym, ap, ◌∙◌}
use mathlib.Core.Logic.{⊎_elim}
use Prim.Native.Nat.{ℕ, zero, suc, ◌+◌, ◌-◌, ◌*◌, ◌/◌, ◌%◌, ◌^◌, ◌≤◌, ◌<◌}
use native.Mathlib.Nat.{lt_of_lt_of_le, mod-eq_of_lt, mod-lt, mul-le-mul_right, pow-suc, sub-add_cancel, zero-mul}
use native.Mathlib.Omega.{arith}
use lib.Pow.{high, low, lt_of_le_ones, mod-mod-pow, ones_lt, ones_split, pow-add, pow_mono, pow_pos, shl_lt, shr_lt}
use Rattle.arm.specs.Bits.{Ones, ROR, Replicate}
use Rattle.arm.specs.BitMasks.{IsWidth, Legal, wmask, esize}
use Rattle.arm.specs.Elements.{Element, runs, IsRun}
use Rattle.arm.proofs.Trailing.{le-or-lt, parity}
use Rattle.arm.proofs.Lengths.{whole, once}
use Rattle.arm.proofs.Runs.{copies, all_ones, odd_ones, fixed, turned_same, run_le, run_even, run_unique}
use Rattle.arm.proofs.Masks.{mask_is}
use Rattle.arm.proofs.Laws.{shape}

-- x is copies of d bits
pub record Repeats (w d x : ℕ) : Type 0 where
  pub bits : ℕ
  pub small : bits < 2 ^ d
  pub is : x ≡ Replicate d bits (w / d)

-- a run that goes on past d places has a 1 there
past : (i j p k m : ℕ)
    → runs (k + (j + p)) (suc m) p (i + j) / 2 ^ (j + p) ≡ Ones (i + j) * 2 ^ p * Replicate (k + (j + p)) 1 m * 2 ^ k + Ones i
unfolding Replicate
past i j p k m =
    let top : Ones (i + j) * 2 ^ p ≡ Ones i * 2 ^ (j + p) + Ones j * 2 ^ p = rw (ones_split i j, pow-add 2 j p) (omega arith) in
    let is : runs (k + (j + p)) (suc m) p (i + j) ≡ (Ones (i + j) * 2 ^ p * Replicate (k + (j + p)) 1 m * 2 ^ k + Ones i) * 2 ^ (j + p) + Ones j * 2 ^ p = rw (pow-add 2 k (j + p)) (omega (arith, top)) in
    rw is (high _ (j + p) (shl_lt j p (ones_lt j)))

-- the lowest of copies
lowest : (e m a : ℕ) → a < 2 ^ e → a * Replicate e 1 (suc m) % 2 ^ e ≡ a
unfolding Replicate
lowest e m a h =
    let is : a * Replicate e 1 (suc m) ≡ a * Replicate e 1 m * 2 ^ e + a = omega arith in
    rw is (low (a * Replicate e 1 m) e h)

even_power : (k : ℕ) → 1 ≤ k → (c : ℕ) × (2 ^ k ≡ c * 2)
even_power zero h = absurd (omega arith)
even_power (suc k) h = (2 ^ k, pow-suc 2 k)

-- an even number is even below any place but the lowest
even_below : (x k : ℕ) → x % 2 ≡ 0 → 1 ≤ k → x % 2 ^ k % 2 ≡ 0
even_below x zero e h = absurd (omega arith)
even_below x (suc k) e h = let is : k + 1 ≡ suc k = omega arith in rw (← is) (mod-mod-pow x k 1 ∙ e)

module _ {w x e p l d : ℕ} (ww : IsWidth w) (h : IsRun w x e p l) (el : Element w d) (t : Repeats w d x) where
  -- the low bits, as the run has them and as the copies have them
  run_low : x % 2 ^ e ≡ Ones l * 2 ^ p
  run_low =
      let k = once h.element in
      let small : Ones l * 2 ^ p < 2 ^ e = lt_of_lt_of_le (shl_lt l p (ones_lt l)) (pow_mono (omega (arith, h.within))) in
      rw (h.value, k.1) (lowest e k.0 (Ones l * 2 ^ p) small)

  x-is : x ≡ t.bits * Replicate d 1 (suc (once el).0)
  x-is = t.is ∙ rw (once el).1 (copies d t.bits (suc (once el).0))

  bits_are : d < e → t.bits ≡ Ones l * 2 ^ p % 2 ^ d
  bits_are b =
      let e_is : e - d + d ≡ e = sub-add_cancel (omega arith) in
      let cut : x % 2 ^ e % 2 ^ d ≡ x % 2 ^ d = rw (← e_is) (mod-mod-pow x (e - d) d) in
      let own : x % 2 ^ d ≡ t.bits = rw x-is (lowest d (once el).0 t.bits t.small) in
      sym own ∙ sym cut ∙ ap (λ (k : ℕ). k % 2 ^ d) run_low

  -- the run within d bits: then it is a run at d too, and a value is a run in one way
  inside : d < e → p + l ≤ d → ⊥
  inside b k =
      let small : Ones l * 2 ^ p < 2 ^ d = lt_of_lt_of_le (shl_lt l p (ones_lt l)) (pow_mono (omega arith)) in
      let is : t.bits ≡ Ones l * 2 ^ p = bits_are b ∙ mod-eq_of_lt small in
      let value : x ≡ runs d (w / d) p l = t.is ∙ copies d t.bits (w / d) ∙ ap (λ (k : ℕ). k * Replicate d 1 (w / d)) is in
      let other : IsRun w x d p l = record { element = el; up = h.up; some = h.some; within = k; value = value } in
      omega (arith, (run_unique ww h other).0)

  -- above d bits: then they are 0, and so is the value
  above : d < e → d < p → ⊥
  above b k =
      let p_is : p - d + d ≡ p = sub-add_cancel (omega arith) in
      let pow : 2 ^ p ≡ 2 ^ (p - d) * 2 ^ d = ap (λ (k : ℕ). 2 ^ k) (sym p_is) ∙ pow-add 2 (p - d) d in
      let up : Ones l * 2 ^ p ≡ Ones l * 2 ^ (p - d) * 2 ^ d + 0 = omega (arith, ap (λ (k : ℕ). Ones l * k) pow) in
      let none : t.bits ≡ 0 = bits_are b ∙ ap (λ (k : ℕ). k % 2 ^ d) up ∙ low (Ones l * 2 ^ (p - d)) d (pow_pos d) in
      let zero : x ≡ 0 = x-is ∙ rw none (zero-mul (Replicate d 1 (suc (once el).0))) in
      let ones : 1 ≤ Ones l = omega (arith, (odd_ones l h.some).is) in
      omega (arith, mul-le-mul_right (2 ^ p) ones, pow_pos p, run_low, ap (λ (k : ℕ). k % 2 ^ e) zero, mod-eq_of_lt (pow_pos e))

  -- across: bit d is set, and bit 0 is not
  across : d < e → p ≤ d → d < p + l → ⊥
  across b lo hi =
      let k = once h.element in
      go (l - (d - p)) (d - p) (e - d) k.0 (omega arith) (omega arith) (omega arith) (sym k.1) (omega arith) (omega arith)
    where
      go : (i j k m : ℕ) → j + p ≡ d → i + j ≡ l → k + d ≡ e → suc m ≡ w / e → 1 ≤ i → 1 ≤ k → ⊥
      go i j k m hj hi hk hm i1 k1 =
          let is : x ≡ runs (k + (j + p)) (suc m) p (i + j) = rw (hj, hk, hi, hm) h.value in
          let y = Ones (i + j) * 2 ^ p * Replicate (k + (j + p)) 1 m in
          let set : x / 2 ^ d ≡ y * 2 ^ k + Ones i = rw (is, ← hj) (past i j p k m) in
          let all : d * suc (once el).0 ≡ w = rw (← (once el).1) (whole ww el) in
          let fits : x < 2 ^ w = lt_of_le_ones w (run_le ww h) in
          let same = fixed w d x el.fits fits (turned_same w d (once el).0 t.bits x all t.small x-is) in
          let clear : x % 2 ^ (w - d) % 2 ≡ 0 = even_below x (w - d) (run_even h) (omega (arith, h.element.fits)) in
          omega (arith, set, same, clear, ap (λ (q : ℕ). y * q) (even_power k k1).1, (odd_ones i i1).is)

  pub run_shortest : e ≤ d
  run_shortest =
      ⊎_elim
      (λ (a : e ≤ d). a)
      (λ (b : d < e).
      absurd
      (⊎_elim (inside b) (λ (hi : d < p + l). ⊎_elim (λ (lo : p ≤ d). across b lo hi) (λ (k : d < p). above b k) (le-or-lt p d)) (le-or-lt (p + l) d)))
      (le-or-lt e d)

-- ---- masks

-- the complement of copies is copies
complement : (d b m : ℕ) → b < 2 ^ d → Ones (d * m) - Replicate d b m ≡ Replicate d (Ones d - b) m
complement d b m h =
    let g = Replicate d 1 m in
    let sum : Ones d - b + b + 1 ≡ 2 ^ d = omega arith in
    rw (copies d b m, copies d (Ones d - b) m) (omega (arith, ap (λ (k : ℕ). k * g) sum, all_ones d m))

turned_lt : (e x r : ℕ) → r ≤ e → x < 2 ^ e → ROR e x r < 2 ^ e
turned_lt e x r h small =
    let e_is : e - r + r ≡ e = sub-add_cancel h in
    let pow : 2 ^ e ≡ 2 ^ (e - r) * 2 ^ r = ap (λ (k : ℕ). 2 ^ k) (sym e_is) ∙ pow-add 2 (e - r) r in
    let up : x / 2 ^ r < 2 ^ (e - r) = shr_lt (e - r) r (rw e_is small) in
    omega (arith, up, pow, mul-le-mul_right (2 ^ (e - r)) (mod-lt x (pow_pos r)))

module _ {w n s r : ℕ} (ww : IsWidth w) (h : Legal w n s r) where
  pub mask_repeats : Repeats w (esize n s) (wmask w n s r)
  mask_repeats =
      let e = esize n s in
      let l = s % e + 1 in
      let t = shape ww h in
      record {
        bits = ROR e (Ones l) (r % e);
        small = turned_lt e (Ones l) (r % e) (omega (arith, t.turn)) (lt_of_lt_of_le (ones_lt l) (pow_mono (omega (arith, t.short))));
        is = mask_is w n s r refl refl refl;
      }

  pub mask_shortest : {d : ℕ} → Element w d → Repeats w d (wmask w n s r) → esize n s ≤ d
  mask_shortest {d} el t =
      let a = shape ww h in
      let all : d * (w / d) ≡ w = whole ww el in
      let other : Repeats w d (Ones w - wmask w n s r) =
      record { bits = Ones d - t.bits; small = omega (arith, pow_pos d); is = rw (t.is, ← complement d t.bits (w / d) t.small, all) refl } in
      ⊎_elim
      (λ (k : wmask w n s r % 2 ≡ 0). run_shortest ww (a.even k) el t)
      (λ (k : wmask w n s r % 2 ≡ 1). run_shortest ww (a.odd k) el other)
      (parity (wmask w n s r))
