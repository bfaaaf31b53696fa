-- What was asked of displacements, over the definitions that the contracts cite. Assumes nothing.
use Rattle.std.proofs.Common.{◌≡◌, ℕ, ◌+◌, ◌-◌, ◌*◌, ◌/◌, ◌^◌, ◌<◌, ◌≤◌, Bool, true, false, cond, not, ltb, ◌⊎◌, ◌↔◌, List, [], ◌∷◌, length, get_or, ℤ, pos, negsuc, neg_ℤ, sym, refl, ap, ◌∙◌, subst, inl, inr, ⊎_elim, lt_of_lt_of_le, add-zero, mod-lt, eq-zero-or-pos, mul-pos, zero-mul, arith, leb→le, get_or-set_other, get_or-set_same, pow_pos, pow_mono, to_z-of_z, w64, SFits, of_z, ltb-false, ltb-true, le-ltb, lt-ltb}
use native.Mathlib.Nat.{zero-mod, zero-div}
use lib.Seq.{sets}
use lib.Signed.{mag}
use Rattle.arm.specs.FixedBits.{is_bcond, is_cbz}
use Rattle.arm.proofs.SignExtends.{extend, extended}
use Rattle.words.specs.Said.{Said, ok, no}
use Rattle.forms.specs.Form.{is_of_form, Formed, form_said}
use Rattle.words.specs.Place.{pos_of, on, Aligned}
use Rattle.words.specs.declared.Place.{Place}
use Rattle.writers.specs.Put.{put_of}
use Rattle.writers.specs.Says.{refused, full, Puts}
use Rattle.words.proofs.Answers.{Alone, not_both}
use Rattle.words.proofs.Fields.{part, bit, bit_of_clear, clear_of_bits}
use Rattle.forms.proofs.Instructions.{one_form}
use Rattle.writers.proofs.Writes.{put_exactly, put_answers, put_15, put-done}
use Rattle.displacements.specs.Forms.{Form, forms, form_of, field_in, put_in, step, reach, least, greatest}
use Rattle.displacements.specs.Answer.{steps_of, place_said, disp_said, offset, read_said}
use Rattle.displacements.specs.Private.{Sound, offset_in}
use Rattle.displacements.specs.Says.{Says, unknown, alien, taken, off, far, word, Based, Free, OnStep, InRange}
use Rattle.displacements.proofs.Laws.{sound, arm_reads, Outside, put_there, put_kept, rest_free, lows_free}
use Rattle.displacements.proofs.Distances.{steps_bits, steps_back}
use Rattle.displacements.proofs.Answers.{says, answers, alone}
use Rattle.displacements.proofs.Kept.{forms_kept, conds_kept}

-- ---- the table is document 01's: step, least, greatest

pub record Row : Type 0 where
  pub step : ℕ
  pub least : ℤ
  pub greatest : ℤ

abbrev rows : List Form → List Row
rows [] = []
rows (f ∷ fs) = record { step = step f; least = least f; greatest = greatest f } ∷ rows fs

pub the_table : rows forms ≡
    record { step = 4; least = neg_ℤ (pos 134217728); greatest = pos 134217724 }
    ∷ record { step = 4; least = neg_ℤ (pos 1048576); greatest = pos 1048572 }
    ∷ record { step = 4; least = neg_ℤ (pos 32768); greatest = pos 32764 }
    ∷ record { step = 1; least = neg_ℤ (pos 1048576); greatest = pos 1048575 }
    ∷ record { step = 4096; least = neg_ℤ (pos 4294967296); greatest = pos 4294963200 }
    ∷ record { step = 4; least = neg_ℤ (pos 1048576); greatest = pos 1048572 }
    ∷ []
the_table = refl

-- ---- each thing is said exactly in its event, in the order 7, 11, 6, 4, 5

module _ (n b : ℕ) (d : ℤ) where
  pub exactly : (a : Said (List ℕ)) → (disp_said n b d ≡ a) ↔ Says n b d a
  exactly a = (λ e. subst (Says n b d) e (says n b d), answers n b d)

  pub exactly_7 : (disp_said n b d ≡ no 7) ↔ (6 ≤ n)
  exactly_7 = (λ e. go ((exactly (no 7)).0 e), λ h. answers n b d (unknown h))
    where
      go : Says n b d (no 7) → 6 ≤ n
      go (unknown h) = h

  -- 11 exactly if the base is not of the format's form
  pub exactly_11 : (disp_said n b d ≡ no 11) ↔ ((n < 6) × (Formed n b → ⊥))
  exactly_11 = (λ e. go ((exactly (no 11)).0 e), λ h. answers n b d (alien h.0 h.1))
    where
      go : Says n b d (no 11) → (n < 6) × (Formed n b → ⊥)
      go (alien h o) = (h, o)

  pub exactly_6 : (disp_said n b d ≡ no 6) ↔ (Based n b × (Free (form_of n) b → ⊥))
  exactly_6 = (λ e. go ((exactly (no 6)).0 e), λ h. answers n b d (taken h.0 h.1))
    where
      go : Says n b d (no 6) → Based n b × (Free (form_of n) b → ⊥)
      go (taken h t) = (h, t)

  pub exactly_4 : (disp_said n b d ≡ no 4) ↔ (Based n b × Free (form_of n) b × (OnStep (form_of n) d → ⊥))
  exactly_4 = (λ e. go ((exactly (no 4)).0 e), λ h. answers n b d (off h.0 h.1 h.2))
    where
      go : Says n b d (no 4) → Based n b × Free (form_of n) b × (OnStep (form_of n) d → ⊥)
      go (off h free o) = (h, free, o)

  pub exactly_5 : (disp_said n b d ≡ no 5) ↔ (Based n b × Free (form_of n) b × OnStep (form_of n) d × (InRange (form_of n) d → ⊥))
  exactly_5 = (λ e. go ((exactly (no 5)).0 e), λ h. answers n b d (far h.0 h.1 h.2 h.3))
    where
      go : Says n b d (no 5) → Based n b × Free (form_of n) b × OnStep (form_of n) d × (InRange (form_of n) d → ⊥)
      go (far h free on r) = (h, free, on, r)

  pub no_other : (k : ℕ) → disp_said n b d ≡ no k → (k ≡ 7) ⊎ (k ≡ 11) ⊎ (k ≡ 6) ⊎ (k ≡ 4) ⊎ (k ≡ 5)
  no_other k e = go k ((exactly (no k)).0 e)
    where
      go : (k : ℕ) → Says n b d (no k) → (k ≡ 7) ⊎ (k ≡ 11) ⊎ (k ≡ 6) ⊎ (k ≡ 4) ⊎ (k ≡ 5)
      go k (unknown h) = inl refl
      go k (alien h o) = inr (inl refl)
      go k (taken h t) = inr (inr (inl refl))
      go k (off h free o) = inr (inr (inr (inl refl)))
      go k (far h free on r) = inr (inr (inr (inr refl)))

  -- a base of one form at another's format: the branch distance in an ADR word
  pub other_form : (m : ℕ) → m < 6 → Formed m b → n < 6 → (n ≡ m → ⊥) → disp_said n b d ≡ no 11
  other_form m k f h o = exactly_11.1 (h, λ g. o (one_form b n m h k g f))

-- ---- a bit of the field is set, or none is

-- bit q is one of the field's
abbrev pub Inside : Form → ℕ → Type 0
Inside f q = ((f.at ≤ q) × (q < f.at + (f.bits - f.low))) ⊎ ((29 ≤ q) × (q < 29 + f.low))

apart : (p n q : ℕ) → (p ≤ q → q < p + n → ⊥) → (q + 1 ≤ p) ⊎ (p + n ≤ q)
apart p n q h = go (ltb q p) refl
  where
    go : (x : Bool) → ltb q p ≡ x → (q + 1 ≤ p) ⊎ (p + n ≤ q)
    go true e = inl (omega (arith, ltb-true q p e))
    go false e = let past : q < p + n → ⊥ = h (ltb-false q p e) in inr (omega arith)

outside_bit : (f : Form) (q : ℕ) → (Inside f q → ⊥) → Outside f q 1
outside_bit f q h = record { rest = apart f.at (f.bits - f.low) q (λ lo hi. h (inl (lo, hi))); lows = inr (apart 29 f.low q (λ lo hi. h (inr (lo, hi)))) }

module _ (n : ℕ) (h : n < 6) (b : ℕ) where
  pub free_bits : Free (form_of n) b ↔ ((q : ℕ) → Inside (form_of n) q → bit q b ≡ 0)
  free_bits =
      let f = form_of n in (
        λ free q. ⊎_elim
            (λ (i : (f.at ≤ q) × (q < f.at + (f.bits - f.low))). bit_of_clear f.at (f.bits - f.low) b (rest_free f (sound n h) b free) q i.0 i.1)
            (λ (i : (29 ≤ q) × (q < 29 + f.low)). bit_of_clear 29 f.low b (lows_free f (sound n h) b free) q i.0 i.1),
        λ clear. rw (clear_of_bits f.at (f.bits - f.low) b (λ q lo hi. clear q (inl (lo, hi))), clear_of_bits 29 f.low b (λ q lo hi. clear q (inr (lo, hi)))) (omega arith),
      )

  -- "6 where the base word already has a bit set in the field"
  pub set_bit : (d : ℤ) (q : ℕ) → Formed n b → Inside (form_of n) q → bit q b ≡ 1 → disp_said n b d ≡ no 6
  set_bit d q f i e = (exactly_6 n b d).1 (record { at = h; form = f }, λ free. omega (arith, free_bits.0 free q i))

  -- the field is clear exactly if Arm reads the distance 0 from the word
  pub clear_is_zero : Free (form_of n) b ↔ (offset n b ≡ 0)
  clear_is_zero = (λ e. sym (arm_reads b n h) ∙ none (form_of n) e, λ e. only (form_of n) (eq-zero-or-pos (field_in (form_of n) b)) (arm_reads b n h ∙ e))
    where
      none : (f : Form) → field_in f b ≡ 0 → offset_in f b ≡ 0
      none f e = simp (e, zero-mul, lt-ltb 0 (reach f) (pow_pos (f.bits + f.scale - 1)))

      only : (f : Form) → (field_in f b ≡ 0) ⊎ (0 < field_in f b) → offset_in f b ≡ 0 → field_in f b ≡ 0
      only f = ⊎_elim (λ e _. e) (λ p e. absurd (extended (f.bits + f.scale) (field_in f b * step f) (mul-pos p (pow_pos f.scale)) e))

-- the distance 0 is on every step and in every range: it asks for the base alone, and gives it back
pub asks_base : (n b : ℕ) → disp_said n b (pos 0) ≡ cond (ltb 5 n) (no 7) (cond (not (is_of_form n b)) (no 11) (cond (ltb 0 (field_in (form_of n) b)) (no 6) (ok (b ∷ []))))
unfolding place_said
asks_base n b =
    let f = form_of n in
    simp (zero-mod (step f), zero-div (step f), zero-mod (2 ^ f.bits), zero-div (2 ^ f.low), zero-mod (2 ^ f.low), zero-mul, add-zero, le-ltb (reach f - step f) 0 (omega arith))

-- ---- what is written is read back

in_reach : (f : Form) (d : ℤ) → InRange f d → mag d < reach f
in_reach f (pos a) r = omega (arith, leb→le a (reach f - step f) r.1.le, pow_pos f.scale, pow_pos (f.bits + f.scale - 1))
in_reach f (negsuc a) r = omega (arith, leb→le a (reach f - 1) r.0.le, pow_pos (f.bits + f.scale - 1))

module _ (f : Form) (s : Sound f) (b : ℕ) (d : ℤ) (free : Free f b) where
  steps_lt : steps_of f d < 2 ^ f.bits
  steps_lt = mod-lt (of_z w64 d / step f) (pow_pos f.bits)

  reads_at : OnStep f d → InRange f d → offset_in f (put_in f b (steps_of f d)) ≡ of_z w64 d
  reads_at on r =
      rw (put_there f s b (steps_of f d) free steps_lt, steps_back f.bits f.scale (of_z w64 d) (steps_bits f.scale (omega (arith, s.narrow)) d on))
      (extend (f.bits + f.scale) (omega (arith, s.some)) (omega (arith, s.narrow)) d (in_reach f d r))

  kept_at : (q l : ℕ) → Outside f q l → part q l (put_in f b (steps_of f d)) ≡ part q l b
  kept_at q l o = put_kept f s b (steps_of f d) free steps_lt q l o

  fits_at : InRange f d → SFits w64 d
  fits_at r = record { sfits = lt_of_lt_of_le (in_reach f d r) (pow_mono {j = 63} (omega (arith, s.narrow))) }

-- what is known of a word that was made
record Word (n b : ℕ) (d : ℤ) (w : ℕ) : Type 0 where
  base : Based n b
  free : Free (form_of n) b
  on : OnStep (form_of n) d
  range : InRange (form_of n) d
  is : w ≡ put_in (form_of n) b (steps_of (form_of n) d)

module _ (n b : ℕ) (d : ℤ) (w : ℕ) (e : disp_said n b d ≡ ok (w ∷ [])) where
  known : Word n b d w
  known = go w ((exactly n b d (ok (w ∷ []))).0 e)
    where
      go : (w : ℕ) → Says n b d (ok (w ∷ [])) → Word n b d w
      go w (word h f o r) = record { base = h; free = f; on = o; range = r; is = refl }

  -- Arm takes from the word the distance that was asked for
  pub arm_reads_back : offset n w ≡ of_z w64 d
  arm_reads_back = sym (arm_reads w n known.base.at) ∙ rw known.is (reads_at (form_of n) (sound n known.base.at) b d known.free known.on known.range)

  -- and so does the reader
  pub read_back : read_said w n ≡ ok d
  read_back = simp (le-ltb 5 n (omega (arith, known.base.at)), arm_reads_back, to_z-of_z (fits_at (form_of n) (sound n known.base.at) b d known.free known.range))

  -- every part of the word outside the field is the base's
  pub kept : (q l : ℕ) → Outside (form_of n) q l → part q l w ≡ part q l b
  kept q l o = rw known.is (kept_at (form_of n) (sound n known.base.at) b d known.free q l o)

  -- and so is every bit that is none of the field's
  pub kept_bit : (q : ℕ) → (Inside (form_of n) q → ⊥) → bit q w ≡ bit q b
  kept_bit q h = kept q 1 (outside_bit (form_of n) q h)

  -- the fixed bits are outside the field: the word is of the form of its base
  pub form_kept : Formed n w
  form_kept = forms_kept w b n known.base.at kept ∙ known.base.form

  -- so the test says yes to it
  pub form_yes : form_said n w ≡ ok true
  form_yes = simp (le-ltb 5 n (omega (arith, known.base.at)), form_kept)

  -- at format 1 a B.cond stays one, and a CBZ or CBNZ too
  pub cond_kept : n ≡ 1 → (is_bcond w ≡ is_bcond b) × (is_cbz w ≡ is_cbz b)
  cond_kept e = conds_kept w b (λ q l o. kept q l (subst (λ (m : ℕ). Outside (form_of m) q l) (sym e) o))

-- ---- the entries that write: 15 first and 8 last, and what stands at the position reads back

module _ (ws : List ℕ) (at : Place) (n b : ℕ) (d : ℤ) where
  -- "15 is tested first": whatever the word is, a base that is no multiple of 4 is all that is said
  pub emit_15 : (Aligned at → ⊥) → put_of ws at (disp_said n b d) ≡ (no 15, ws)
  emit_15 = put_15 ws at (disp_said n b d)

  module _ (a : Aligned at) where
    -- a refusal of the word is the entry's, and changes nothing
    pub emit_refuses : (k : ℕ) → disp_said n b d ≡ no k → put_of ws at (disp_said n b d) ≡ (no k, ws)
    emit_refuses k e = put_answers ws at (disp_said n b d) (refused k a e)

    -- a word needs room for itself at the position
    pub emit_8 : (w : ℕ) → disp_said n b d ≡ ok (w ∷ []) → (put_of ws at (disp_said n b d) ≡ (no 8, ws)) ↔ (length ws ≤ pos_of at)
    emit_8 w e = (λ f. go ws ((put_exactly ws at (disp_said n b d) (no 8, ws)).0 f), λ h. put_answers ws at (disp_said n b d) (full (w ∷ []) a e (omega arith)))
      where
        go : (l : List ℕ) → Puts ws at (disp_said n b d) (no 8, l) → length ws ≤ pos_of at
        go l (refused k a q) = absurd (not_both (sym e ∙ q))
        go l (full vs a q h) = let same : w ∷ [] ≡ vs = cc in omega (arith, h, ap length same)

-- after a success the word stands at the position, the new place is one word on, and every other word is as before
pub record Emitted (ws : List ℕ) (at : Place) (x : Said (List ℕ)) (p : Place) (ws' : List ℕ) : Type 0 where
  pub base : Aligned at
  pub room : pos_of at < length ws
  pub past : p ≡ on at 1
  pub there : x ≡ ok (get_or ws' (pos_of at) 0 ∷ [])
  pub others : (k : ℕ) → (k ≡ pos_of at → ⊥) → get_or ws' k 0 ≡ get_or ws k 0

-- whatever one word was asked for
pub one_put : (ws : List ℕ) (at : Place) (x : Said (List ℕ)) (p : Place) (ws' : List ℕ) → Alone x → (ok p, ws') ≡ put_of ws at x → Emitted ws at x p ws'
one_put ws at x p ws' one e = let d = put-done ws at x ws' p e in go d.vs d.asked d.base d.past d.holds d.fits
  where
    go : (vs : List ℕ) → x ≡ ok vs → Aligned at → p ≡ on at (length vs) → ws' ≡ sets ws (pos_of at) vs → pos_of at + length vs ≤ length ws → Emitted ws at x p ws'
    go [] q a past holds fits = absurd (omega (arith, subst Alone q one))
    go (w ∷ []) q a past holds fits =
        let room : pos_of at < length ws = omega (arith, fits) in
        let there : get_or ws' (pos_of at) 0 ≡ w = rw holds (get_or-set_same ws (pos_of at) w 0 room) in
        record { base = a; room = room; past = past; there = rw there q; others = λ k i. rw holds (get_or-set_other ws (pos_of at) k w 0 i) }
    go (v ∷ w ∷ vs) q a past holds fits = absurd (omega (arith, subst Alone q one))

module _ (ws : List ℕ) (at : Place) (n b : ℕ) (d : ℤ) (p : Place) (ws' : List ℕ) (e : (ok p, ws') ≡ put_of ws at (disp_said n b d)) where
  pub emitted : Emitted ws at (disp_said n b d) p ws'
  emitted = one_put ws at (disp_said n b d) p ws' (alone n b d) e

  -- by Arm's reading and by the reader
  pub emit_reads_back : (offset n (get_or ws' (pos_of at) 0) ≡ of_z w64 d) × (read_said (get_or ws' (pos_of at) 0) n ≡ ok d)
  emit_reads_back = let w = get_or ws' (pos_of at) 0 in (arm_reads_back n b d w emitted.there, read_back n b d w emitted.there)
