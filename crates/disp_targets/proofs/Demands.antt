-- What was asked of the target entry, over the definitions that the contracts cite. Assumes nothing.
use Rattle.std.proofs.Common.{◌≡◌, ℕ, ◌+◌, ◌-◌, ◌*◌, ◌/◌, ◌%◌, ◌^◌, ◌<◌, ◌≤◌, Bool, true, false, cond, eqb, List, [], ◌∷◌, get_or, refl, ap, ◌∙◌, mod-lt, arith, pow_pos, w64, of_z, ne_eqb}
use mir.Facts.{of_z-to_z}
use Rattle.words.specs.Said.{ok}
use Rattle.words.specs.Place.{place_at, base_of, pos_of, address_of}
use Rattle.words.specs.declared.Place.{Place}
use Rattle.writers.specs.Put.{put_at, based_at, put_of}
use Rattle.writers.proofs.Writes.{put_before}
use Rattle.displacements.specs.Answer.{disp_said, offset}
use Rattle.displacements.proofs.Demands.{arm_reads_back, emitted}
use Rattle.disp_targets.specs.Target.{page_of, between, target_said}

-- ---- by value

-- it is the distance entry at the distance of the two, for ADRP of their pages
pub target_is_distance : (n b t a : ℕ) → target_said n b t a ≡ disp_said n b (between (page_of n t) (page_of n a))
target_is_distance n b t a = refl

-- at format 4 the page, the address less its low 12 bits
pub page_is : (a : ℕ) → page_of 4 a ≡ a / 4096 * 4096
page_is a = omega arith

-- elsewhere the address
pub page_other : (n a : ℕ) → (n ≡ 4 → ⊥) → page_of n a ≡ a
page_other n a h = simp (ne_eqb n 4 h)

pub elsewhere : (n b t a : ℕ) → (n ≡ 4 → ⊥) → target_said n b t a ≡ disp_said n b (between t a)
elsewhere n b t a h = rw (page_other n t h, page_other n a h)

-- as 64 bits
pub bits_between : (t o : ℕ) → of_z w64 (between t o) ≡ (t + (2 ^ 64 - o)) % 2 ^ 64
bits_between t o = of_z-to_z {w = w64} (record { fits = mod-lt (t + (2 ^ 64 - o)) (pow_pos 64) })

page_le : (n a : ℕ) → page_of n a ≤ a
page_le n a = go (eqb n 4)
  where
    go : (x : Bool) → cond x (a - a % 4096) a ≤ a
    go true = omega arith
    go false = omega arith

-- by Arm's reading the instruction arrives at the target, an ADRP at its page
pub arrives : (n b t a w : ℕ) → t < 2 ^ 64 → a < 2 ^ 64 → target_said n b t a ≡ ok (w ∷ []) → (page_of n a + offset n w) % 2 ^ 64 ≡ page_of n t
arrives n b t a w ht ha e =
    rw (arm_reads_back n b (between (page_of n t) (page_of n a)) w e, bits_between (page_of n t) (page_of n a))
    (back (page_of n t) (page_of n a) (omega (arith, page_le n t)) (omega (arith, page_le n a)))
  where
    back : (t o : ℕ) → t < 2 ^ 64 → o < 2 ^ 64 → (o + (t + (2 ^ 64 - o)) % 2 ^ 64) % 2 ^ 64 ≡ t
    back t o h k = omega arith

-- ---- written: the address is the place's

pub address_fits : (at : Place) → address_of at < 2 ^ 64
address_fits at = mod-lt (base_of at + 4 * pos_of at) (pow_pos 64)

module _ (ws : List ℕ) (at : Place) (n b t : ℕ) where
  pub emit_arrives : (p : Place) (ws' : List ℕ) → t < 2 ^ 64
      → (ok p, ws') ≡ put_of ws at (target_said n b t (address_of at)) → (page_of n (address_of at) + offset n (get_or ws' (pos_of at) 0)) % 2 ^ 64 ≡ page_of n t
  emit_arrives p ws' ht e =
      arrives n b t (address_of at) (get_or ws' (pos_of at) 0) ht (address_fits at)
      (emitted ws at n b (between (page_of n t) (page_of n (address_of at))) p ws' e).there

pub zero_address : (p : ℕ) → 4 * p < 2 ^ 64 → address_of (place_at 0 p) ≡ 4 * p
zero_address p h = omega arith

-- "At base 0 no word changes, where the address given to the target entry was four times the position": what document 01's writer says of that address
pub zero_base : (ws : List ℕ) (p n b t : ℕ) → 4 * p < 2 ^ 64
    → put_of ws (place_at 0 p) (target_said n b t (address_of (place_at 0 p))) ≡ based_at (record { 0 = 0 }) (put_at ws p (target_said n b t (4 * p)))
zero_base ws p n b t h =
    put_before ws (place_at 0 p) (target_said n b t (address_of (place_at 0 p))) refl
    ∙ ap (λ (a : ℕ). based_at (record { 0 = 0 }) (put_at ws p (target_said n b t a))) (zero_address p h)
