-- The cases of what is said, each from its event and back. Assumes nothing.
use Rattle.std.proofs.Common.{◌≡◌, ℕ, ◌+◌, ◌-◌, ◌%◌, ◌^◌, ◌<◌, ◌≤◌, Bool, true, false, cond, not, ◌||◌, ltb, List, [], ◌∷◌, ℤ, pos, negsuc, nat_abs, sym, refl, ap, ◌∙◌, arith, le→leb, leb→le, pow_pos, pow-add, ltb-false, ltb-true, le-ltb, lt-ltb}
use Prim.Native.Nat.{◌∣◌}
use native.Mathlib.Nat.{dvd-mul_left, dvd-sub, dvd_of_mod-eq-zero, le_of_dvd}
use lib.Signed.{mag, lt_z}
use Rattle.words.specs.Said.{Said, ok, no}
use Rattle.words.specs.declared.Refusal.TheVariants.{Unknown, WrongForm, Taken, Step, Range}
use Rattle.forms.specs.Form.{is_of_form, Formed}
use Rattle.arm.proofs.Tests.{never}
use Rattle.words.proofs.Answers.{Short, Alone, Numbered, alone_short}
use Rattle.displacements.specs.Forms.{Form, form_of, field_in, put_in, step, reach, least, greatest}
use Rattle.displacements.specs.Answer.{place_said, steps_of, disp_said}
use Rattle.displacements.specs.Private.{Sound}
use Rattle.displacements.specs.Says.{Says, unknown, alien, taken, off, far, word, Based, Free, OnStep, InRange}

-- ---- document 01's range: on the step, in reach is from the least to the greatest distance

abbrev pub outside : Form → ℤ → Bool
outside f d = lt_z d (least f) || lt_z (greatest f) d

pub range_far : (f : Form) (d : ℤ) → reach f ≤ mag d → outside f d ≡ true
range_far f (pos a) h = lt-ltb (reach f - step f) a (omega (arith, pow_pos f.scale, pow_pos (f.bits + f.scale - 1)))
range_far f (negsuc a) h = ap (λ (x : Bool). x || false) (lt-ltb (reach f - 1) a (omega (arith, pow_pos (f.bits + f.scale - 1))))

least_step : (f : Form) → Sound f → step f ∣ reach f
least_step f s =
    let e : f.bits - 1 + f.scale ≡ f.bits + f.scale - 1 = omega (arith, s.some) in
    rw (sym (ap (λ (k : ℕ). 2 ^ k) e) ∙ pow-add 2 (f.bits - 1) f.scale) (dvd-mul_left (step f) (2 ^ (f.bits - 1)))

pub range_near : (f : Form) → Sound f → (d : ℤ) → OnStep f d → mag d < reach f → outside f d ≡ false
range_near f s (pos a) on h =
    let n : 0 < reach f - a = omega arith in
    le-ltb (reach f - step f) a (omega (arith, le_of_dvd n (dvd-sub (step f) (least_step f s) (dvd_of_mod-eq-zero (step f) on))))
range_near f s (negsuc a) on h = ap (λ (x : Bool). x || false) (le-ltb (reach f - 1) a (omega arith))

-- the test is the range
pub in_range : (f : Form) (d : ℤ) → outside f d ≡ false → InRange f d
in_range f (pos a) e = (record { le = tt }, record { le = le→leb a (reach f - step f) (ltb-false _ _ e) })
in_range f (negsuc a) e = go (ltb (reach f - 1) a) refl e
  where
    go : (x : Bool) → ltb (reach f - 1) a ≡ x → (x || false) ≡ false → InRange f (negsuc a)
    go true t u = let z : ◌≡◌ {A = ℕ} 0 1 = cc in absurd (omega arith)
    go false t u = (record { le = le→leb a (reach f - 1) (ltb-false _ _ t) }, record { le = tt })

pub not_in_range : (f : Form) (d : ℤ) → outside f d ≡ true → InRange f d → ⊥
not_in_range f (pos a) e r = omega (arith, ltb-true (reach f - step f) a e, leb→le a (reach f - step f) r.1.le)
not_in_range f (negsuc a) e r = go (ltb (reach f - 1) a) refl e
  where
    go : (x : Bool) → ltb (reach f - 1) a ≡ x → (x || false) ≡ true → ⊥
    go true t u = omega (arith, ltb-true (reach f - 1) a t, leb→le a (reach f - 1) r.0.le)
    go false t u = let z : ◌≡◌ {A = ℕ} 0 1 = cc in omega arith

pub outside_range : (f : Form) (d : ℤ) → (InRange f d → ⊥) → outside f d ≡ true
outside_range f d h = go (outside f d) refl
  where
    go : (x : Bool) → outside f d ≡ x → x ≡ true
    go true e = refl
    go false e = absurd (h (in_range f d e))

pub inside_range : (f : Form) (d : ℤ) → InRange f d → outside f d ≡ false
inside_range f d h = go (outside f d) refl
  where
    go : (x : Bool) → outside f d ≡ x → x ≡ false
    go true e = absurd (not_in_range f d e h)
    go false e = refl

-- ---- the cases at a format

module _ (f : Form) (b : ℕ) (d : ℤ) where
  pub place_taken : (Free f b → ⊥) → place_said f b d ≡ no 6
  unfolding place_said
  place_taken h = simp (lt-ltb 0 (field_in f b) (omega arith))

  module _ (free : Free f b) where
    pub place_off : (OnStep f d → ⊥) → place_said f b d ≡ no 4
    unfolding place_said
    place_off h = simp (le-ltb 0 (field_in f b) (omega arith), lt-ltb 0 (nat_abs d % step f) (omega arith))

    module _ (on : OnStep f d) where
      pub place_far : outside f d ≡ true → place_said f b d ≡ no 5
      unfolding place_said
      place_far h = simp (le-ltb 0 (field_in f b) (omega arith), le-ltb 0 (nat_abs d % step f) (omega arith), h)

      pub place_word : outside f d ≡ false → place_said f b d ≡ ok (put_in f b (steps_of f d) ∷ [])
      unfolding place_said
      place_word h = simp (le-ltb 0 (field_in f b) (omega arith), le-ltb 0 (nat_abs d % step f) (omega arith), h)

-- ---- each thing is said exactly in its event

some : {x : ℕ} → ltb 0 x ≡ true → x ≡ 0 → ⊥
some {x} e z = omega (arith, ltb-true 0 x e)

none : {x : ℕ} → ltb 0 x ≡ false → x ≡ 0
none {x} e = omega (arith, ltb-false 0 x e)

known : {n : ℕ} → ltb 5 n ≡ false → n < 6
known {n} e = omega (arith, ltb-false 5 n e)

module _ (n b : ℕ) (d : ℤ) where
  pub says : Says n b d (disp_said n b d)
  unfolding place_said
  says = go (ltb 5 n) (is_of_form n b) (ltb 0 (field_in (form_of n) b)) (ltb 0 (nat_abs d % step (form_of n))) (outside (form_of n) d) refl refl refl refl refl
    where
      go : (u v x y z : Bool) → ltb 5 n ≡ u → is_of_form n b ≡ v → ltb 0 (field_in (form_of n) b) ≡ x → ltb 0 (nat_abs d % step (form_of n)) ≡ y → outside (form_of n) d ≡ z
          → Says n b d (cond u (no 7) (cond (not v) (no 11) (cond x (no 6) (cond y (no 4) (cond z (no 5) (ok (put_in (form_of n) b (steps_of (form_of n) d) ∷ [])))))))
      go true v x y z eu ev ex ey ez = unknown (ltb-true 5 n eu)
      go false false x y z eu ev ex ey ez = alien (known eu) (λ e. never (sym e ∙ ev))
      go false true true y z eu ev ex ey ez = taken (record { at = known eu; form = ev }) (some ex)
      go false true false true z eu ev ex ey ez = off (record { at = known eu; form = ev }) (none ex) (some ey)
      go false true false false true eu ev ex ey ez = far (record { at = known eu; form = ev }) (none ex) (none ey) (not_in_range (form_of n) d ez)
      go false true false false false eu ev ex ey ez = word (record { at = known eu; form = ev }) (none ex) (none ey) (in_range (form_of n) d ez)

  -- a format there is
  at_known : n < 6 → disp_said n b d ≡ cond (not (is_of_form n b)) (no 11) (place_said (form_of n) b d)
  at_known h = simp (le-ltb 5 n (omega arith))

  not_formed : (Formed n b → ⊥) → is_of_form n b ≡ false
  not_formed h = go (is_of_form n b) refl
    where
      go : (v : Bool) → is_of_form n b ≡ v → v ≡ false
      go true e = absurd (h e)
      go false e = refl

  at_base : Based n b → disp_said n b d ≡ place_said (form_of n) b d
  at_base h = at_known h.at ∙ simp h.form

  pub answers : {a : Said (List ℕ)} → Says n b d a → disp_said n b d ≡ a
  answers (unknown h) = simp (lt-ltb 5 n h)
  answers (alien h o) = at_known h ∙ simp (not_formed o)
  answers (taken h t) = at_base h ∙ place_taken (form_of n) b d t
  answers (off h free o) = at_base h ∙ place_off (form_of n) b d free o
  answers (far h free on r) = at_base h ∙ place_far (form_of n) b d free on (outside_range (form_of n) d r)
  answers (word h free on r) = at_base h ∙ place_word (form_of n) b d free on (inside_range (form_of n) d r)

-- one word, or a refusal's number
pub alone : (n b : ℕ) (d : ℤ) → Alone (disp_said n b d)
alone n b d = go (says n b d)
  where
    go : {a : Said (List ℕ)} → Says n b d a → Alone a
    go (unknown h) = tt
    go (alien h o) = tt
    go (taken h t) = tt
    go (off h free o) = tt
    go (far h free on r) = tt
    go (word h free on r) = refl

pub numbered : (n b : ℕ) (d : ℤ) → Numbered (disp_said n b d)
numbered n b d = go (says n b d)
  where
    go : {a : Said (List ℕ)} → Says n b d a → Numbered a
    go (unknown h) = (Unknown, refl)
    go (alien h o) = (WrongForm, refl)
    go (taken h t) = (Taken, refl)
    go (off h free o) = (Step, refl)
    go (far h free on r) = (Range, refl)
    go (word h free on r) = tt

pub short : (n b : ℕ) (d : ℤ) → Short (disp_said n b d)
short n b d = alone_short (disp_said n b d) (alone n b d)
