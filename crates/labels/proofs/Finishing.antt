-- Finishing is all or nothing, the words may be written one after the other, and what is refused changes nothing. Assumes nothing.
use mathlib.Core.Path.{◌≡◌, refl, sym, ap, subst, ◌∙◌}
use mathlib.Core.Bool.{Bool, true, false, cond, not}
use mathlib.Core.List.{List, [], ◌∷◌, ◌++◌, map, append_assoc, append-nil}
use Prim.Native.Nat.{ℕ, zero, suc, ◌+◌, ◌*◌, ◌%◌, ◌^◌, ◌<◌, ◌≤◌}
use native.Mathlib.Nat.{not-suc-le-zero}
use native.Mathlib.Omega.{arith}
use borrow.Author.Tests.{ltb-true, leb-true, eqb-true, eqb-false, ne_eqb}
use lib.Dec.{eqb, leb}
use lib.IntN.{ℤ}
use lib.ListN.{length, get_or, set, take, length-map, get_or-map}
use lib.Seq.{get_or-set_other, length-take-le, get_or-take}
use Rattle.arm.proofs.Tests.{never}
use Rattle.words.specs.Said.{Said, ok, no}
use Rattle.words.specs.Place.{base_of, pos_of, place_at, address_of, Aligned}
use Rattle.words.specs.declared.Place.{Place}
use Rattle.words.proofs.Answers.{Alone, Numbered, number_fits}
use Rattle.displacements.specs.Answer.{offset}
use Rattle.displacements.proofs.Answers.{alone, numbered}
use Rattle.disp_targets.specs.Target.{page_of, between, target_said}
use Rattle.disp_targets.proofs.Demands.{arrives, address_fits, zero_address}
use Rattle.labels.specs.declared.Use.{Use}
use Rattle.labels.specs.Limits.{use_limit}
use Rattle.labels.specs.Order.{first, or_else}
use Rattle.labels.specs.Puts.{puts, Free, Apart}
use Rattle.labels.specs.Sheet.{aligned, none, room_for, names, bind_tests, bind_of, use_refusal, use_of, target, made_from, made_of, number_in, word_tests, word_number, check_of, or_base, pair_of, filled, finish_tests, finish_of}
use Rattle.labels.proofs.Puts.{length_puts, puts_other, puts_at}
use Rattle.labels.proofs.Tests.{both, Passed, Numbers, numbers, passed_first, first_passed, first_then, or-none, answer_refused, answer_why, answer_done}

-- ---- words that are named

neither : (b x : Bool) → cond b true x ≡ false → (b ≡ false) × (x ≡ false)
neither true x h = never h
neither false x h = (refl, h)

either_more : (t x y z : Bool) → x ≡ cond y true z → cond t true x ≡ cond (cond t true y) true z
either_more true x y z e = refl
either_more false x y z e = e

pub names_append : (k : ℕ) (a b : List Use) → names k (a ++ b) ≡ cond (names k a) true (names k b)
names_append k [] b = refl
names_append k (u ∷ a) b = either_more (eqb u.at k) (names k (a ++ b)) (names k a) (names k b) (names_append k a b)

-- no word is named twice
abbrev pub Distinct : List Use → Type 0
Distinct [] = Unit
Distinct (u ∷ us) = (names u.at us ≡ false) × Distinct us

-- none of the uses names a word of those before
abbrev pub Clear : List Use → List Use → Type 0
Clear before [] = Unit
Clear before (u ∷ us) = (names u.at before ≡ false) × Clear before us

clear_less : (before : List Use) (u : Use) (us : List Use) → Clear (before ++ (u ∷ [])) us → Clear before us × (names u.at us ≡ false)
clear_less before u [] c = (tt, refl)
clear_less before u (v ∷ us) c =
    let s = neither (names v.at before) (names v.at (u ∷ [])) (sym (names_append v.at before (u ∷ [])) ∙ c.0) in
    let r = clear_less before u us c.1 in
    let n = neither (eqb u.at v.at) false s.1 in
    let e = ne_eqb v.at u.at (λ e. eqb-false u.at v.at n.0 (sym e)) in
    ((s.0, r.0), ap (λ (t : Bool). cond t true (names u.at us)) e ∙ r.1)

module _ (at : Place) (ls ws : List ℕ) where
  pub names_free : (k : ℕ) (us : List Use) → names k us ≡ false → Free k (map (pair_of at ls ws) us)
  names_free k [] h = tt
  names_free k (u ∷ us) h =
      let s = neither (eqb u.at k) (names k us) h in
      ((λ e. eqb-false u.at k s.0 (sym e)), names_free k us s.1)

  pub apart : (us : List Use) → Distinct us → Apart (map (pair_of at ls ws) us)
  apart [] d = tt
  apart (u ∷ us) d = (names_free u.at us d.0, apart us d.1)

-- ---- what module 7 gives for a use: one word, or a refusal's number

module _ (at : Place) (ls : List ℕ) (u : Use) (b : ℕ) where
  -- the distance from its word to its label, for ADRP of their pages
  abbrev distance : ℤ
  distance =
      let to = address_of (place_at (base_of at) (target ls u)) in
      let from = address_of (place_at (base_of at) u.at) in
      between (page_of u.format to) (page_of u.format from)

  pub made_alone : Alone (made_from at ls u b)
  unfolding made_from
  made_alone = alone u.format b distance

  pub made_numbered : Numbered (made_from at ls u b)
  unfolding made_from
  made_numbered = numbered u.format b distance

one_word : (x : Said (List ℕ)) → Alone x → Numbered x → number_in x ≡ 0 → (w : ℕ) × (x ≡ ok (w ∷ []))
one_word (ok []) a n h = absurd (omega arith)
one_word (ok (w ∷ [])) a n h = (w, refl)
one_word (ok (v ∷ w ∷ vs)) a n h = absurd (omega arith)
one_word (no k) a n h = absurd (omega (arith, number_fits n))

-- ---- what the check finds

-- a use that passed: module 7 gives a word, and its place is in the run
pub record Placed (at : Place) (ls ws : List ℕ) (u : Use) : Type 0 where
  pub word : ℕ
  pub made : made_of at ls ws u ≡ ok (word ∷ [])
  pub inside : u.at < length ws

abbrev pub All : Place → List ℕ → List ℕ → List Use → Type 0
All at ls ws [] = Unit
All at ls ws (u ∷ us) = Placed at ls ws u × All at ls ws us

not-true : (b : Bool) → not b ≡ true → b ≡ false
not-true true h = sym h
not-true false h = refl

pub word_numbers : (ls ws : List ℕ) (again : Bool) (u : Use) → Numbers (word_tests ls ws again u)
word_numbers ls ws again u = numbers (word_tests ls ws again u) refl

module _ (at : Place) (ls ws : List ℕ) where
  pub word_passed : (again : Bool) (u : Use) → word_number at ls ws again u ≡ 0 → Passed (word_tests ls ws again u) × (number_in (made_of at ls ws u) ≡ 0)
  unfolding word_number
  word_passed again u h = first_passed (word_tests ls ws again u) (number_in (made_of at ls ws u)) (word_numbers ls ws again u) h

  pub word_sound : (again : Bool) (u : Use) → word_number at ls ws again u ≡ 0 → Placed at ls ws u × (again ≡ false)
  word_sound again u h =
      let p = word_passed again u h in
      let b = get_or ws u.at 0 in
      let w = one_word (made_of at ls ws u) (made_alone at ls u b) (made_numbered at ls u b) p.1 in
      let t = p.0.1.1.1 in
      (record { word = w.0; made = w.1; inside = ltb-true u.at (length ws) t.0 }, not-true again t.1.1.1.1.0)

  pub check_sound : (before us : List Use) → check_of at ls ws before us ≡ 0 → All at ls ws us × Distinct us × Clear before us
  check_sound before [] h = (tt, tt, tt)
  check_sound before (u ∷ us) h =
      let s = or-none (word_number at ls ws (names u.at before) u) (check_of at ls ws (before ++ (u ∷ [])) us) h in
      let p = word_sound (names u.at before) u s.0 in
      let r = check_sound (before ++ (u ∷ [])) us s.1 in
      let c = clear_less before u us r.2 in
      ((p.0, r.0), (c.1, r.1), (p.1, c.0))

-- ---- one after the other

abbrev pub each_in_turn : Place → List ℕ → List ℕ → List Use → List ℕ
each_in_turn at ls ws [] = ws
each_in_turn at ls ws (u ∷ us) = each_in_turn at ls (set ws u.at (pair_of at ls ws u).1) us

module _ (at : Place) (ls : List ℕ) where
  -- a use's word is the same after a store to another place
  pair_same : (ws : List ℕ) (k v : ℕ) (u : Use) → (u.at ≡ k → ⊥) → pair_of at ls (set ws k v) u ≡ pair_of at ls ws u
  pair_same ws k v u h = rw (get_or-set_other ws k u.at v 0 h)

  pairs_same : (ws : List ℕ) (k v : ℕ) (us : List Use) → names k us ≡ false → map (pair_of at ls (set ws k v)) us ≡ map (pair_of at ls ws) us
  pairs_same ws k v [] h = refl
  pairs_same ws k v (u ∷ us) h =
      let s = neither (eqb u.at k) (names k us) h in
      rw (pair_same ws k v u (eqb-false u.at k s.0), pairs_same ws k v us s.1)

  -- one use is written, and the others from the run as it then is
  pub fill_one : (ws : List ℕ) (u : Use) (us : List Use) → names u.at us ≡ false
      → filled at ls (set ws u.at (pair_of at ls ws u).1) us ≡ filled at ls ws (u ∷ us)
  fill_one ws u us h = ap (puts (set ws u.at (pair_of at ls ws u).1)) (pairs_same ws u.at (pair_of at ls ws u).1 us h)

  pub one_by_one : (ws : List ℕ) (us : List Use) → Distinct us → each_in_turn at ls ws us ≡ filled at ls ws us
  one_by_one ws [] d = refl
  one_by_one ws (u ∷ us) d = one_by_one (set ws u.at (pair_of at ls ws u).1) us d.1 ∙ fill_one ws u us d.0

-- ---- all or nothing

-- after success: each used word is what module 7's target entry gives, and every other word is as it was
pub record Finished (at : Place) (ls ws ws' : List ℕ) (us : List Use) : Type 0 where
  pub long : length ws' ≡ length ws
  pub each : (i : ℕ) → i < length us → made_of at ls ws (get_or us i none) ≡ ok (get_or ws' (get_or us i none).at 0 ∷ [])
  pub others : (k : ℕ) → names k us ≡ false → get_or ws' k 0 ≡ get_or ws k 0

module _ (at : Place) (ls ws : List ℕ) where
  pub placed_at : (us : List Use) (i : ℕ) → All at ls ws us → i < length us → Placed at ls ws (get_or us i none)
  placed_at [] i a h = absurd (not-suc-le-zero h)
  placed_at (u ∷ us) zero a h = a.0
  placed_at (u ∷ us) (suc i) a h = placed_at us i a.1 (omega arith)

  -- a use's position and word, for each
  abbrev pairs : List Use → List (ℕ × ℕ)
  pairs us = map (pair_of at ls ws) us

  filled_at : (us : List Use) → All at ls ws us → Distinct us → (i : ℕ) → i < length us
      → made_of at ls ws (get_or us i none) ≡ ok (get_or (filled at ls ws us) (get_or us i none).at 0 ∷ [])
  filled_at us a d i h =
      let u = get_or us i none in
      let p = placed_at us i a h in
      let e : get_or (pairs us) i (pair_of at ls ws none) ≡ pair_of at ls ws u = get_or-map (pair_of at ls ws) us i none in
      let v : get_or (filled at ls ws us) u.at 0 ≡ (pair_of at ls ws u).1 =
      rw e at (puts_at ws (pairs us) i (pair_of at ls ws none) (apart at ls ws us d) (rw length-map h) (rw e p.inside)) in
      p.made ∙ ap (λ (n : ℕ). ok (n ∷ [])) (sym (v ∙ ap (or_base (get_or ws u.at 0)) p.made))

  filled_is : (us : List Use) → All at ls ws us → Distinct us → Finished at ls ws (filled at ls ws us) us
  filled_is us a d = record {
    long = length_puts ws (pairs us);
    each = filled_at us a d;
    others = λ k h. puts_other ws (pairs us) k (names_free at ls ws k us h);
  }

pub finish_numbers : (at : Place) (there n : ℕ) → Numbers (finish_tests at there n)
finish_numbers at there n = numbers (finish_tests at there n) refl

pub room_in : (there n : ℕ) → room_for there n ≡ true → n ≤ there
unfolding room_for
room_in there n h = leb-true n there (both (leb n use_limit) (leb n there) h).1

pub room_below : (there n : ℕ) → room_for there n ≡ true → n ≤ use_limit
unfolding room_for
room_below there n h = leb-true n use_limit (both (leb n use_limit) (leb n there) h).0

module _ (at : Place) (ls ws : List ℕ) (us : List Use) (n : ℕ) where
  -- the number that decides
  abbrev pub number_of_finish : ℕ
  number_of_finish = first (finish_tests at (length us) n) (check_of at ls ws [] (take n us))

  -- what is tested before any use is looked at, then the uses
  pub finish_then : number_of_finish ≡ or_else (first (finish_tests at (length us) n) 0) (check_of at ls ws [] (take n us))
  finish_then = first_then (finish_tests at (length us) n) (check_of at ls ws [] (take n us)) (finish_numbers at (length us) n)

  module _ (k : ℕ) (ws' : List ℕ) (h : finish_of at ls ws us n ≡ (ok k, ws')) where
    came : (number_of_finish ≡ 0) × (k ≡ 0) × (ws' ≡ filled at ls ws (take n us))
    came = answer_done 0 ws (filled at ls ws (take n us)) number_of_finish k ws' (sym h)

    pass : Passed (finish_tests at (length us) n) × (check_of at ls ws [] (take n us) ≡ 0)
    pass = first_passed (finish_tests at (length us) n) (check_of at ls ws [] (take n us)) (finish_numbers at (length us) n) came.0

    -- the base is a multiple of 4, and the sheet holds the uses that wait
    pub finish_aligned : Aligned at
    unfolding aligned
    finish_aligned = eqb-true (base_of at % 4) 0 pass.0.0

    pub finish_room : n ≤ length us
    finish_room = room_in (length us) n pass.0.1.0

    pub finish_sound : All at ls ws (take n us) × Distinct (take n us)
    finish_sound = let s = check_sound at ls ws [] (take n us) pass.1 in (s.0, s.1)

    pub finish_fills : ws' ≡ filled at ls ws (take n us)
    finish_fills = came.2

    -- an accepted finish empties the sheet, and every word is determined
    pub finished : (k ≡ 0) × Finished at ls ws ws' (take n us)
    finished = (came.1, rw finish_fills (filled_is at ls ws (take n us) finish_sound.0 finish_sound.1))

    -- the i-th use: where its word stands, and what it is
    module _ (i : ℕ) (m : i < n) where
      abbrev item : Use
      item = get_or us i none

      -- the addresses of the word and of its label
      abbrev word_address : ℕ
      word_address = address_of (place_at (base_of at) item.at)

      abbrev label_address : ℕ
      label_address = address_of (place_at (base_of at) (target ls item))

      inner : i < length (take n us)
      inner = rw (length-take-le n us finish_room) m

      pub finished_inside : item.at < length ws
      finished_inside = rw (get_or-take n us i none m) at (placed_at at ls ws (take n us) i finish_sound.0 inner).inside

      pub finished_at : made_of at ls ws item ≡ ok (get_or ws' item.at 0 ∷ [])
      finished_at = rw (get_or-take n us i none m) at (finished.1.each i inner)

      -- by Arm's reading the word arrives at its label, at format 4 at the label's page
      pub finish_arrives :
          (page_of item.format word_address + offset item.format (get_or ws' item.at 0)) % 2 ^ 64 ≡ page_of item.format label_address
      unfolding made_from
      finish_arrives =
          let w = address_fits (place_at (base_of at) item.at) in
          let l = address_fits (place_at (base_of at) (target ls item)) in
          arrives item.format (get_or ws item.at 0) label_address word_address (get_or ws' item.at 0) l w finished_at

  -- a refused one leaves every word
  pub finish_refused : (k : ℕ) (ws' : List ℕ) → finish_of at ls ws us n ≡ (no k, ws') → ws' ≡ ws
  finish_refused k ws' h = answer_refused 0 ws (filled at ls ws (take n us)) number_of_finish k ws' (sym h)

-- "addresses being four times the positions": at base 0
pub base_zero : (at : Place) (ls : List ℕ) (u : Use) (b : ℕ) → base_of at ≡ 0 → target ls u < 2 ^ 62 → u.at < 2 ^ 62
    → made_from at ls u b ≡ target_said u.format b (4 * target ls u) (4 * u.at)
unfolding made_from
base_zero at ls u b z h k = rw (z, zero_address (target ls u) (omega arith), zero_address u.at (omega arith))

-- ---- a refused bind or use leaves what was lent

pub bind_refused : (ls ws : List ℕ) (l : ℕ) (at : Place) (k : ℕ) (ls' : List ℕ) → bind_of ls ws l at ≡ (no k, ls') → ls' ≡ ls
bind_refused ls ws l at k ls' h = answer_refused tt ls (set ls l (pos_of at + 1)) (first (bind_tests ls ws l at) 0) k ls' (sym h)

module _ (ls ws : List ℕ) (us : List Use) (n : ℕ) (at : Place) (u : Use) where
  -- the number that decides
  abbrev pub number_of_use : ℕ
  number_of_use = use_refusal ls ws at u (names u.at (take n us)) (room_for (length us) (n + 1))

  pub use_refused : (k : ℕ) (us' : List Use) → use_of ls ws us n at u ≡ (no k, us') → us' ≡ us
  use_refused k us' h = answer_refused (n + 1) us (set us n u) number_of_use k us' (sym h)

-- ---- "the first refusal found": the uses in sheet order

-- of the uses after `before`, the first that is refused, and by which number
pub record Refused (at : Place) (ls ws : List ℕ) (before us : List Use) (k : ℕ) : Type 0 where
  pub index : ℕ
  pub within : index < length us
  pub number : word_number at ls ws (names (get_or us index none).at (before ++ take index us)) (get_or us index none) ≡ k
  pub earlier : (j : ℕ) → j < index → word_number at ls ws (names (get_or us j none).at (before ++ take j us)) (get_or us j none) ≡ 0

module _ (at : Place) (ls ws : List ℕ) where
  -- the number of the i-th use, after those before
  abbrev number_at : List Use → List Use → ℕ → ℕ
  number_at before us i = word_number at ls ws (names (get_or us i none).at (before ++ take i us)) (get_or us i none)

  here : (before : List Use) (u : Use) (us : List Use) → number_at before (u ∷ us) 0 ≡ word_number at ls ws (names u.at before) u
  here before u us = ap (λ (l : List Use). word_number at ls ws (names u.at l) u) (append-nil before)

  there : (before : List Use) (u : Use) (us : List Use) (i : ℕ) → number_at (before ++ (u ∷ [])) us i ≡ number_at before (u ∷ us) (suc i)
  there before u us i =
      ap (λ (l : List Use). word_number at ls ws (names (get_or us i none).at l) (get_or us i none)) (append_assoc before (u ∷ []) (take i us))

  -- the first use has the number r, and the others are `more`
  first_or : (before : List Use) (u : Use) (us : List Use) (more r : ℕ) → word_number at ls ws (names u.at before) u ≡ r → (or_else r more ≡ 0 → ⊥)
      → ((more ≡ 0 → ⊥) → Refused at ls ws (before ++ (u ∷ [])) us more) → Refused at ls ws before (u ∷ us) (or_else r more)
  first_or before u us more (suc r) e h next =
      record { index = 0; within = omega arith; number = here before u us ∙ e; earlier = λ j m. absurd (not-suc-le-zero m) }
  first_or before u us more zero e h next =
      let f = next h in
      record { index = suc f.index; within = omega (arith, f.within); number = sym (there before u us f.index) ∙ f.number; earlier = past f }
    where
      past : (f : Refused at ls ws (before ++ (u ∷ [])) us more) (j : ℕ) → j < suc f.index → number_at before (u ∷ us) j ≡ 0
      past f zero m = here before u us ∙ e
      past f (suc j) m = sym (there before u us j) ∙ f.earlier j (omega arith)

  check_first : (before us : List Use) → (check_of at ls ws before us ≡ 0 → ⊥) → Refused at ls ws before us (check_of at ls ws before us)
  check_first before [] h = absurd (h refl)
  check_first before (u ∷ us) h =
      let next = before ++ (u ∷ []) in
      first_or before u us (check_of at ls ws next us) (word_number at ls ws (names u.at before) u) refl h (check_first next us)

  -- the number of a refused finish that is past 15 and 14 is that of the first use that is refused
  pub first_refusal : (us : List Use) (n k : ℕ) (ws' : List ℕ) → aligned at ≡ true → room_for (length us) n ≡ true
      → finish_of at ls ws us n ≡ (no k, ws') → (k ≡ 0 → ⊥) × Refused at ls ws [] (take n us) k
  first_refusal us n k ws' a r h =
      let e = answer_why 0 ws (filled at ls ws (take n us)) (number_of_finish at ls ws us n) k ws' (sym h) in
      let c : check_of at ls ws [] (take n us) ≡ k =
      sym (passed_first (finish_tests at (length us) n) (check_of at ls ws [] (take n us)) (a, (r, tt))) ∙ e.0 in
      (e.1, subst (Refused at ls ws [] (take n us)) c (check_first [] (take n us) (λ z. e.1 (sym c ∙ z))))
