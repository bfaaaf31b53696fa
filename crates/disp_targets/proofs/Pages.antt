-- ADRP to any target: what document 02's request f asks of the target entry at format 4. Assumes nothing.
use Rattle.std.proofs.Common.{◌≡◌, ℕ, ◌+◌, ◌-◌, ◌%◌, ◌^◌, ◌<◌, ◌↔◌, List, [], ◌∷◌, get_or, ℤ, nat_abs, sym, ◌∙◌, subst, mod-lt, arith, pow_pos, w64}
use mathlib.Core.Option.{some}
use mir.Facts.{sfits_to_z}
use Rattle.arm.specs.Bits.{bits, join}
use Rattle.arm.specs.Displacements.{page_adrp}
use Rattle.words.specs.Said.{ok, no}
use Rattle.words.specs.Place.{pos_of, address_of}
use Rattle.words.specs.declared.Place.{Place}
use Rattle.writers.specs.Put.{put_of}
use Rattle.displacements.specs.Forms.{form_of, put_in}
use Rattle.displacements.specs.Answer.{steps_of, disp_said}
use Rattle.displacements.specs.Says.{Based, Free, OnStep, InRange, word}
use Rattle.displacements.proofs.Distances.{bits_steps}
use Rattle.displacements.proofs.Answers.{answers}
use Rattle.displacements.proofs.Demands.{exactly_4, exactly_5, emitted}
use Rattle.disp_targets.specs.Target.{page_of, between, target_said, low_of, carrying, carried}
use Rattle.disp_targets.proofs.Targets.{carrying_parts, carried_parts, low_four}
use Rattle.disp_targets.proofs.Demands.{elsewhere, arrives, bits_between, address_fits}

-- the distance of a target's page from an address's
abbrev pub pages : (t a : ℕ) → ℤ
pages t a = between (page_of 4 t) (page_of 4 a)

-- two pages are always on the step
pub page_on_step : (t a : ℕ) → OnStep (form_of 4) (pages t a)
page_on_step t a =
    let bits = page_of 4 t + (2 ^ 64 - page_of 4 a) in
    let low : bits % 2 ^ 64 % 2 ^ 12 ≡ 0 = omega arith in
    bits_steps 12 (omega arith) (pages t a) (sfits_to_z {w = w64} (record { fits = mod-lt bits (pow_pos 64) })) (rw (bits_between (page_of 4 t) (page_of 4 a)) low)

module _ (b t a : ℕ) where
  -- "With the target entry format 4 no longer gives refusal 4"
  pub never_4 : target_said 4 b t a ≡ no 4 → ⊥
  never_4 e = ((exactly_4 4 b (pages t a)).0 e).2 (page_on_step t a)

  -- a base of its own gets its word where the pages are in range, wherever in its page the target lies
  pub page_word : Based 4 b → Free (form_of 4) b → InRange (form_of 4) (pages t a) → target_said 4 b t a ≡ ok (put_in (form_of 4) b (steps_of (form_of 4) (pages t a)) ∷ [])
  page_word h f r = answers 4 b (pages t a) (word h f (page_on_step t a) r)

  -- and 5 where they are not
  pub page_far : (target_said 4 b t a ≡ no 5) ↔ (Based 4 b × Free (form_of 4) b × (InRange (form_of 4) (pages t a) → ⊥))
  page_far =
      let e = exactly_5 4 b (pages t a) in
      (λ q. let k = e.0 q in (k.0, k.1, k.3), λ h. e.1 (h.0, h.1, page_on_step t a, h.2))

  -- only the target's page decides
  pub page_alone : target_said 4 b t a ≡ target_said 4 b (page_of 4 t) a
  page_alone = let e : page_of 4 (page_of 4 t) ≡ page_of 4 t = omega arith in rw e

  -- a target on a page gets what it got before
  pub on_page : t % 4096 ≡ 0 → target_said 4 b t a ≡ disp_said 4 b (between t (page_of 4 a))
  on_page e = let p : page_of 4 t ≡ t = omega arith in rw p

-- at another format the target entry gives 4 where target minus address is off the step
pub other_4 : (n b t a : ℕ) → (n ≡ 4 → ⊥) → (target_said n b t a ≡ no 4) ↔ (Based n b × Free (form_of n) b × (OnStep (form_of n) (between t a) → ⊥))
other_4 n b t a h =
    let e = exactly_4 n b (between t a) in
    (λ q. e.0 (sym (elsewhere n b t a h) ∙ q), λ k. elsewhere n b t a h ∙ e.1 k)

-- "with the distance entry it still does"
pub distance_4 : (b : ℕ) (d : ℤ) → Based 4 b → Free (form_of 4) b → (nat_abs d % 4096 ≡ 0 → ⊥) → disp_said 4 b d ≡ no 4
distance_4 b d h f o = (exactly_4 4 b d).1 (h, f, o)

-- ---- demand 2: the page that Arm computes, and the low bits beside it

-- of the ADRP w at the address a, and of the low bits l: the page is the target's, and with the low bits it is the target
pub record Paged (t a w l : ℕ) : Type 0 where
  pub page : page_adrp a w ≡ t - t % 4096
  pub sum : page_adrp a w + l ≡ t
  pub fits : l < 4096

module _ (n b t a : ℕ) (ht : t < 2 ^ 64) (ha : a < 2 ^ 64) where
  arm_page : (w : ℕ) → target_said 4 b t a ≡ ok (w ∷ []) → page_adrp a w ≡ t - t % 4096
  arm_page w e = let base : join 12 (bits 63 12 a) 0 ≡ page_of 4 a = omega arith in rw base (arrives 4 b t a w ht ha e)

  -- a word made at format 4, with the target's low bits
  pub paged_at : (w l : ℕ) → n ≡ 4 → l ≡ t % 4096 → target_said n b t a ≡ ok (w ∷ []) → Paged t a w l
  paged_at w l four low e =
      let p = arm_page w (subst (λ (m : ℕ). target_said m b t a ≡ ok (w ∷ [])) four e) in
      record { page = p; sum = omega (arith, p); fits = omega (arith, mod-lt t (pow_pos 12)) }

  -- by value
  pub paged : (w l : ℕ) → carrying (low_of n t) (target_said n b t a) ≡ ok (w ∷ [], some l) → Paged t a w l
  paged w l e =
      let k = carrying_parts (low_of n t) (target_said n b t a) (w ∷ []) (some l) e in
      paged_at w l (low_four n t l k.1).0 (low_four n t l k.1).1 k.0

-- and written, at the address of the place
pub emit_paged : (ws : List ℕ) (at : Place) (n b t : ℕ) (p : Place) (l : ℕ) (ws' : List ℕ) → t < 2 ^ 64
    → (ok (p, some l), ws') ≡ carried (low_of n t) (put_of ws at (target_said n b t (address_of at))) → Paged t (address_of at) (get_or ws' (pos_of at) 0) l
emit_paged ws at n b t p l ws' ht e =
    let a = address_of at in
    let k = carried_parts (low_of n t) (put_of ws at (target_said n b t a)) p (some l) ws' e in
    paged_at n b t a ht (address_fits at) (get_or ws' (pos_of at) 0) l (low_four n t l k.1).0 (low_four n t l k.1).1
    (emitted ws at n b (between (page_of n t) (page_of n a)) p ws' k.0).there
