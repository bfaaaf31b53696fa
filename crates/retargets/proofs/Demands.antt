-- What is asked of a retarget: when each number is given, that the new distance is read back and every other bit kept, and that the last one counts.
-- Assumes nothing.
use mathlib.Core.Path.{◌≡◌, refl, sym, ap, ◌∙◌}
use mathlib.Core.Logic.{◌↔◌}
use mathlib.Core.Bool.{Bool, true, false}
use mathlib.Core.List.{List, [], ◌∷◌}
use mathlib.Core.Option.{some}
use Prim.Native.Nat.{ℕ, ◌+◌, ◌/◌, ◌%◌, ◌^◌, ◌<◌, ◌≤◌}
use native.Mathlib.Nat.{mod-lt}
use native.Mathlib.Omega.{arith}
use borrow.Author.Tests.{ltb-true, ltb-false}
use lib.Dec.{ltb}
use lib.IntN.{ℤ}
use lib.ListN.{length, get_or}
use lib.Pow.{pow_pos}
use mir.Syntax.{w64}
use mir.Val.{of_z}
use Rattle.words.specs.Said.{Said, ok, no}
use Rattle.words.specs.Place.{pos_of, address_of}
use Rattle.words.specs.declared.Place.{Place}
use Rattle.words.proofs.Fields.{part}
use Rattle.words.proofs.Answers.{not_both}
use Rattle.writers.specs.Put.{put_of}
use Rattle.forms.specs.Form.{Formed}
use Rattle.displacements.specs.Forms.{form_of, field_in, clear_in, step}
use Rattle.displacements.specs.Answer.{steps_of, disp_said, offset, read_said}
use Rattle.displacements.specs.Says.{Says, word}
use Rattle.displacements.proofs.Laws.{sound, Outside}
use Rattle.displacements.proofs.Cleared.{clear_free, clear_kept, clear_same, clear_put, clear_form}
use Rattle.displacements.proofs.Demands.{exactly, exactly_11, exactly_6, read_back, arm_reads_back, kept, form_kept, Emitted, one_put}
use Rattle.disp_targets.specs.Target.{page_of, between, low_of, carried}
use Rattle.disp_targets.proofs.Demands.{arrives, address_fits}
use Rattle.disp_targets.proofs.Targets.{carried_parts, low_four}
use Rattle.disp_targets.proofs.Pages.{Paged, paged_at}
use Rattle.retargets.specs.Retarget.{word_at, again_said, again_to}
use Rattle.retargets.proofs.Answers.{word_there, word_missing, again_7, again_there, again_missing, again_alone}

-- ---- of the word w that stands there, at a format there is

-- clearing the word that the distance entry made gives its base
cleared_again : (n b : ℕ) (d : ℤ) (v : ℕ) → disp_said n b d ≡ ok (v ∷ []) → clear_in (form_of n) v ≡ b
cleared_again n b d v e = go v ((exactly n b d (ok (v ∷ []))).0 e)
  where
    go : (v : ℕ) → Says n b d (ok (v ∷ [])) → clear_in (form_of n) v ≡ b
    go v (word k free on r) = clear_put (form_of n) (sound n k.at) b free (steps_of (form_of n) d) (mod-lt (of_z w64 d / step (form_of n)) (pow_pos (form_of n).bits))

module _ (n w : ℕ) (d : ℤ) (h : n ≤ 5) where
  -- "clears the field, then the same tests"
  pub the_same : again_said n (ok w) d ≡ disp_said n (clear_in (form_of n) w) d
  the_same = again_there n d w h

  -- 11 exactly if the word is not of the format's form
  pub wrong_form : (again_said n (ok w) d ≡ no 11) ↔ (Formed n w → ⊥)
  wrong_form =
      let c = clear_in (form_of n) w in
      let same = clear_form n (omega arith) w in
      (λ e f. ((exactly_11 n c d).0 (sym the_same ∙ e)).1 (same ∙ f), λ o. the_same ∙ (exactly_11 n c d).1 (omega arith, λ f. o (sym same ∙ f)))

  -- never 6: nothing stands in the field
  pub never_6 : again_said n (ok w) d ≡ no 6 → ⊥
  never_6 e = ((exactly_6 n (clear_in (form_of n) w) d).0 (sym the_same ∙ e)).1 (clear_free (form_of n) (sound n (omega arith)) w)

  module _ (v : ℕ) (e : again_said n (ok w) d ≡ ok (v ∷ [])) where
    made : disp_said n (clear_in (form_of n) w) d ≡ ok (v ∷ [])
    made = sym the_same ∙ e

    -- the new distance is the one read back, by Arm's reading and by the reader
    pub again_reads : (offset n v ≡ of_z w64 d) × (read_said v n ≡ ok d)
    again_reads = (arm_reads_back n (clear_in (form_of n) w) d v made, read_back n (clear_in (form_of n) w) d v made)

    -- every part of the word outside the field is as it was
    pub again_kept : (q l : ℕ) → Outside (form_of n) q l → part q l v ≡ part q l w
    again_kept q l o = kept n (clear_in (form_of n) w) d v made q l o ∙ clear_kept (form_of n) (sound n (omega arith)) w q l o

    -- and it is an instruction of the format still
    pub again_form : Formed n v
    again_form = form_kept n (clear_in (form_of n) w) d v made

    -- the last one counts: a second retarget says of the new word what it would have said of the old one
    pub last_counts : (d' : ℤ) → again_said n (ok v) d' ≡ again_said n (ok w) d'
    last_counts d' =
        again_there n d' v h
        ∙ ap (λ (x : ℕ). disp_said n x d') (cleared_again n (clear_in (form_of n) w) d v made)
        ∙ sym (again_there n d' w h)

  -- a word with nothing in its field: what the distance entry says of it as its base
  pub on_clear : field_in (form_of n) w ≡ 0 → again_said n (ok w) d ≡ disp_said n w d
  on_clear free = the_same ∙ ap (λ (x : ℕ). disp_said n x d) (clear_same (form_of n) (sound n (omega arith)) w free)

-- ---- 8 where no word stands, behind 7 (`again-7`) and before all else

module _ (ws : List ℕ) (at : Place) (n : ℕ) (d : ℤ) (h : n ≤ 5) where
  pub again_8 : length ws ≤ pos_of at → again_said n (word_at ws (pos_of at)) d ≡ no 8
  again_8 k = ap (λ (x : Said ℕ). again_said n x d) (word_missing ws (pos_of at) k) ∙ again_missing n d 8 h

  -- and of the word that stands there
  pub again_at : pos_of at < length ws → again_said n (word_at ws (pos_of at)) d ≡ disp_said n (clear_in (form_of n) (get_or ws (pos_of at) 0)) d
  again_at k = ap (λ (x : Said ℕ). again_said n x d) (word_there ws (pos_of at) k) ∙ again_there n d (get_or ws (pos_of at) 0) h

-- ---- where a word was made: a format there is, and a word that stood

pub record Sent (ws : List ℕ) (p n : ℕ) (d : ℤ) (v : ℕ) : Type 0 where
  pub at : n ≤ 5
  pub there : p < length ws
  pub word : again_said n (ok (get_or ws p 0)) d ≡ ok (v ∷ [])
  -- over the cleared word it is what the distance entry makes
  pub base : disp_said n (clear_in (form_of n) (get_or ws p 0)) d ≡ ok (v ∷ [])

pub sent : (ws : List ℕ) (p n : ℕ) (d : ℤ) (v : ℕ) → again_said n (word_at ws p) d ≡ ok (v ∷ []) → Sent ws p n d v
sent ws p n d v q = go (ltb 5 n) (ltb p (length ws)) refl refl
  where
    go : (b c : Bool) → ltb 5 n ≡ b → ltb p (length ws) ≡ c → Sent ws p n d v
    go true c e f = absurd (not_both (sym q ∙ again_7 n d (word_at ws p) (ltb-true 5 n e)))
    go false true e f =
        let h = ltb-false 5 n e in
        let t = ltb-true p (length ws) f in
        let w = ap (λ (x : Said ℕ). again_said n x d) (sym (word_there ws p t)) ∙ q in
        record { at = h; there = t; word = w; base = sym (the_same n (get_or ws p 0) d h) ∙ w }
    go false false e f =
        absurd (not_both (sym q ∙ ap (λ (x : Said ℕ). again_said n x d) (word_missing ws p (ltb-false p (length ws) f)) ∙ again_missing n d 8 (ltb-false 5 n e)))

-- ---- written: the word at the position is the old one with the new distance, and every other word is as before

module _ (ws : List ℕ) (at : Place) (n : ℕ) (d : ℤ) (p : Place) (ws' : List ℕ) (e : (ok p, ws') ≡ put_of ws at (again_said n (word_at ws (pos_of at)) d)) where
  pub retargeted : Emitted ws at (again_said n (word_at ws (pos_of at)) d) p ws'
  retargeted = one_put ws at (again_said n (word_at ws (pos_of at)) d) p ws' (again_alone n (word_at ws (pos_of at)) d) e

  abbrev old : ℕ
  old = get_or ws (pos_of at) 0

  abbrev new : ℕ
  new = get_or ws' (pos_of at) 0

  made_of : Sent ws (pos_of at) n d new
  made_of = sent ws (pos_of at) n d new retargeted.there

  pub retarget_reads : (offset n new ≡ of_z w64 d) × (read_said new n ≡ ok d)
  retarget_reads = again_reads n old d made_of.at new made_of.word

  pub retarget_kept : (q l : ℕ) → Outside (form_of n) q l → part q l new ≡ part q l old
  retarget_kept = again_kept n old d made_of.at new made_of.word

  pub retarget_form : Formed n new
  retarget_form = again_form n old d made_of.at new made_of.word

  -- the distance entry's word over the cleared one
  pub retarget_base : disp_said n (clear_in (form_of n) old) d ≡ ok (new ∷ [])
  retarget_base = made_of.base

-- to a target: by Arm's reading the instruction arrives there, an ADRP at its page, which with the low bits is the target
module _ (ws : List ℕ) (at : Place) (n t : ℕ) (p : Place) (ws' : List ℕ) (ht : t < 2 ^ 64) where
  pub retarget_arrives : (ok p, ws') ≡ put_of ws at (again_to n (word_at ws (pos_of at)) t (address_of at))
      → (page_of n (address_of at) + offset n (get_or ws' (pos_of at) 0)) % 2 ^ 64 ≡ page_of n t
  retarget_arrives e =
      let d = between (page_of n t) (page_of n (address_of at)) in
      arrives n (clear_in (form_of n) (get_or ws (pos_of at) 0)) t (address_of at) (get_or ws' (pos_of at) 0) ht (address_fits at) (retarget_base ws at n d p ws' e)

  pub retarget_paged : (l : ℕ) → (ok (p, some l), ws') ≡ carried (low_of n t) (put_of ws at (again_to n (word_at ws (pos_of at)) t (address_of at)))
      → Paged t (address_of at) (get_or ws' (pos_of at) 0) l
  retarget_paged l e =
      let a = address_of at in
      let k = carried_parts (low_of n t) (put_of ws at (again_to n (word_at ws (pos_of at)) t a)) p (some l) ws' e in
      let four = low_four n t l k.1 in
      paged_at n (clear_in (form_of n) (get_or ws (pos_of at) 0)) t a ht (address_fits at) (get_or ws' (pos_of at) 0) l four.0 four.1
      (retarget_base ws at n (between (page_of n t) (page_of n a)) p ws' k.0)
