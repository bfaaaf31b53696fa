-- Arm's masks and runs: each mask whose lowest bit is 0 is a run repeated, and any other is the complement of one. Assumes nothing.
use mathlib.Core.Path.{◌≡◌, refl, sym, ap, ◌∙◌}
use mathlib.Core.Logic.{inl}
use Prim.Native.Nat.{ℕ, ◌+◌, ◌-◌, ◌*◌, ◌/◌, ◌%◌, ◌≤◌, ◌<◌}
use native.Mathlib.Nat.{mod-eq_of_lt, mod-lt}
use native.Mathlib.Omega.{arith}
use Rattle.arm.specs.Bits.{Ones, ROR, Replicate}
use Rattle.arm.specs.BitMasks.{IsWidth, Legal, wmask, esize}
use Rattle.arm.specs.Elements.{Element, runs, IsRun, n_of, s_of}
use Rattle.arm.proofs.Runs.{copies, plain_copies, wrapped_copies}
use Rattle.arm.proofs.Lengths.{doubled, whole, width_le}
use Rattle.arm.proofs.Fields.{spelt, legal_element}

pub mask_is : (w n s r : ℕ) {e l q : ℕ} → esize n s ≡ e → s % e + 1 ≡ l → r % e ≡ q → wmask w n s r ≡ Replicate e (ROR e (Ones l) q) (w / e)
unfolding wmask
mask_is w n s r he hl hq = rw (he, hl, hq)

-- ---- from Arm's fields to a run

module _ {w n s r : ℕ} (ww : IsWidth w) (h : Legal w n s r) where
  pub even_run : s % esize n s + 1 ≤ r % esize n s → IsRun w (wmask w n s r) (esize n s) (esize n s - r % esize n s) (s % esize n s + 1)
  even_run k =
      let e = esize n s in
      let low : r % e < e = mod-lt r (omega (arith, h.not-all)) in
      record {
        element = legal_element ww h;
        up = omega arith;
        some = omega arith;
        within = omega arith;
        value = mask_is w n s r refl refl refl ∙ plain_copies e (s % e + 1) (r % e) (w / e) k;
      }

  pub odd_sum : r % esize n s ≤ s % esize n s
      → wmask w n s r + runs (esize n s) (w / esize n s) (s % esize n s + 1 - r % esize n s) (esize n s - (s % esize n s + 1)) ≡ Ones w
  odd_sum k =
      let e = esize n s in
      rw (mask_is w n s r refl refl refl)
      (wrapped_copies e (s % e + 1) (r % e) (w / e) (omega arith) (omega (arith, h.not-all)) ∙ ap Ones (whole ww (legal_element ww h)))

  pub odd_run : r % esize n s ≤ s % esize n s → (x : ℕ) → wmask w n s r + x ≡ Ones w
      → IsRun w x (esize n s) (s % esize n s + 1 - r % esize n s) (esize n s - (s % esize n s + 1))
  odd_run k x all = record {
    element = legal_element ww h;
    up = omega arith;
    some = omega (arith, h.not-all);
    within = omega (arith, h.not-all);
    value = omega (arith, odd_sum k);
  }

-- ---- from a run to Arm's fields

-- fields that spell a run of l ones in an element of e bits, turned by q
pub record Spells (w e l q : ℕ) : Type 0 where
  pub legal : Legal w (n_of e) (s_of e l) q
  pub turned : q < esize (n_of e) (s_of e l)
  pub mask : wmask w (n_of e) (s_of e l) q ≡ Replicate e (ROR e (Ones l) q) (w / e)

pub fields : {w e : ℕ} (l q : ℕ) → IsWidth w → Element w e → 1 ≤ l → l < e → q < e → Spells w e l q
fields {w} {e} l q ww h a b k =
    let t = spelt l h a b in
    record {
      legal = record {
        n_bits = t.n_bits;
        s_bits = t.s_bits;
        r_bits = omega (arith, width_le ww, h.fits);
        some_len = t.some_len;
        not-all = rw (t.e_is, t.l_is) b;
        narrow = λ (is : w ≡ 32). omega (arith, h.fits);
      };
      turned = rw t.e_is k;
      mask = mask_is w _ _ q t.e_is t.l_is (mod-eq_of_lt k);
    }

-- a run is the mask of its length and place, and its complement that of the gap
module _ {w x e p l : ℕ} (ww : IsWidth w) (h : IsRun w x e p l) where
  pub run_even : Spells w e l (e - p) × (wmask w (n_of e) (s_of e l) (e - p) ≡ x)
  run_even =
      let t = fields l (e - p) ww h.element h.some (omega arith) (omega arith) in
      let back : e - (e - p) ≡ p = omega arith in
      (t, t.mask ∙ plain_copies e l (e - p) (w / e) (omega arith) ∙ rw back (sym h.value))

  pub run_odd : Spells w e (e - l) (e - p - l) × (wmask w (n_of e) (s_of e (e - l)) (e - p - l) + x ≡ Ones w)
  run_odd =
      let t = fields (e - l) (e - p - l) ww h.element (omega arith) (omega arith) (omega arith) in
      let gap : e - (e - l) ≡ l = omega arith in
      let back : e - l - (e - p - l) ≡ p = omega arith in
      let all = rw (gap, back, whole ww h.element) at (wrapped_copies e (e - l) (e - p - l) (w / e) (omega arith) (omega arith)) in
      (t, rw (t.mask, h.value) all)

-- ---- the masks of width 32, twice in 64 bits

pub wider : {n s r : ℕ} → Legal 32 n s r → Legal 64 n s r
wider h = record { n_bits = h.n_bits; s_bits = h.s_bits; r_bits = h.r_bits; some_len = h.some_len; not-all = h.not-all; narrow = λ q. absurd (omega arith) }

pub narrower : {n s r : ℕ} → Legal 64 n s r → n ≡ 0 → Legal 32 n s r
narrower h z = record { n_bits = h.n_bits; s_bits = h.s_bits; r_bits = h.r_bits; some_len = h.some_len; not-all = h.not-all; narrow = λ q. z }

pub doubled_mask : (n s r : ℕ) → Legal 32 n s r → wmask 64 n s r ≡ wmask 32 n s r * 4294967297
doubled_mask n s r h =
    let e = esize n s in
    let x = ROR e (Ones (s % e + 1)) (r % e) in
    rw (mask_is 64 n s r refl refl refl, mask_is 32 n s r refl refl refl, copies e x (64 / e), copies e x (32 / e), doubled (legal_element (inl refl) h))
    (omega arith)
