-- What the writers say and leave: each thing in its event and back, and what then stands in the run. Assumes nothing.
use mathlib.Core.Path.{◌≡◌, refl, sym, ap, subst, ◌∙◌}
use mathlib.Core.Bool.{Bool, true, false, cond}
use mathlib.Core.List.{List, [], ◌∷◌, ◌++◌}
use mathlib.Core.Logic.{◌⊎◌, inl, inr, ⊎_elim, ◌↔◌}
use Prim.Native.Nat.{ℕ, suc, ◌+◌, ◌*◌, ◌/◌, ◌%◌, ◌≤◌, ◌<◌}
use native.Mathlib.Omega.{arith}
use borrow.Author.Tests.{le-leb, lt-leb, leb-true, leb-false, eq-eqb, ne_eqb, eqb-true, eqb-false}
use lib.Dec.{eqb, leb}
use lib.ListN.{length, set, take, drop, get_or, length-append}
use lib.Seq.{sets, sets-eq, slice, take_at, drop_at, length-take-le, get_or-set_other}
use Rattle.words.specs.Said.{Said, ok, no}
use Rattle.words.specs.Place.{base_of, pos_of, on, Aligned}
use Rattle.words.specs.declared.Place.{Place}
use Rattle.words.proofs.Answers.{not_both}
use Rattle.writers.specs.Put.{put_at, put_bytes_at, based, based_at, put_of, put_bytes_of, all_bytes, words_in}
use Rattle.writers.specs.Says.{Says, unaligned, refused, full, done, Puts, PutsBytes}

abbrev pub Answer : Type 0
Answer = Said Place × List ℕ

-- ---- at a position: the words fit, or there is no room for them

module _ (ws : List ℕ) (at : ℕ) (vs : List ℕ) where
  pub at_fits : at + length vs ≤ length ws → put_at ws at (ok vs) ≡ (ok (at + length vs), sets ws at vs)
  unfolding put_at
  at_fits h = simp (le-leb (at + length vs) (length ws) h)

  pub at_full : length ws < at + length vs → put_at ws at (ok vs) ≡ (no 8, ws)
  unfolding put_at
  at_full h = simp (lt-leb (at + length vs) (length ws) h)

  pub bytes_at_fit : at + length vs ≤ length ws / 4 → put_bytes_at ws at (ok vs) ≡ (ok (at + length vs), sets ws (at * 4) (all_bytes vs))
  unfolding put_bytes_at
  bytes_at_fit h = simp (le-leb (at + length vs) (length ws / 4) h)

  pub bytes_at_full : length ws / 4 < at + length vs → put_bytes_at ws at (ok vs) ≡ (no 8, ws)
  unfolding put_bytes_at
  bytes_at_full h = simp (lt-leb (at + length vs) (length ws / 4) h)

-- ---- at a place: each thing is said exactly in its event

module _ (at : Place) (x : Said (List ℕ)) where
  pub based_yes : Aligned at → based at x ≡ x
  unfolding based
  based_yes a = simp (eq-eqb _ _ a)

  pub based_no : (Aligned at → ⊥) → based at x ≡ no 15
  unfolding based
  based_no h = simp (ne_eqb _ _ h)

-- for either writer, of which all that is known is what it says of a refusal and of words
module _ (room from : ℕ) (spell : List ℕ → List ℕ) (l : List ℕ) (at : Place) (put : Said (List ℕ) → Said ℕ × List ℕ)
    (kept : (n : ℕ) → put (no n) ≡ (no n, l))
    (roomed : (vs : List ℕ) → put (ok vs) ≡ cond (leb (pos_of at + length vs) room) (ok (pos_of at + length vs), sets l from (spell vs)) (no 8, l)) where
  says : (x : Said (List ℕ)) → Says room from spell l at x (based_at at.base (put (based at x)))
  unfolding based
  says x = go (eqb (base_of at % 4) 0) refl x
    where
      fit : (vs : List ℕ) (b : Bool) → Aligned at → leb (pos_of at + length vs) room ≡ b
          → Says room from spell l at (ok vs) (based_at at.base (cond b (ok (pos_of at + length vs), sets l from (spell vs)) (no 8, l)))
      fit vs true a t = done vs a refl (leb-true _ _ t)
      fit vs false a t = full vs a refl (leb-false _ _ t)

      go : (b : Bool) → eqb (base_of at % 4) 0 ≡ b → (x : Said (List ℕ)) → Says room from spell l at x (based_at at.base (put (cond b x (no 15))))
      go false e x = rw (kept 15) (unaligned (eqb-false _ _ e))
      go true e (no n) = rw (kept n) (refused n (eqb-true _ _ e) refl)
      go true e (ok vs) = rw (roomed vs) (fit vs (leb (pos_of at + length vs) room) (eqb-true _ _ e) refl)

  answers : (x : Said (List ℕ)) {z : Answer} → Says room from spell l at x z → based_at at.base (put (based at x)) ≡ z
  answers x (unaligned h) = rw (based_no at x h, kept 15) refl
  answers x (refused n a e) = rw (based_yes at x a, e, kept n) refl
  answers x (full vs a e h) = rw (based_yes at x a, e, roomed vs, lt-leb _ _ h) refl
  answers x (done vs a e h) = rw (based_yes at x a, e, roomed vs, le-leb _ _ h) refl

module _ (l : List ℕ) (at : Place) (x : Said (List ℕ)) where
  pub put_says : Puts l at x (put_of l at x)
  unfolding put_of put_at
  put_says = says (length l) (pos_of at) (λ vs. vs) l at (put_at l (pos_of at)) (λ n. refl) (λ vs. refl) x

  pub put_answers : {z : Answer} → Puts l at x z → put_of l at x ≡ z
  unfolding put_of put_at
  put_answers = answers (length l) (pos_of at) (λ vs. vs) l at (put_at l (pos_of at)) (λ n. refl) (λ vs. refl) x

  pub bytes_says : PutsBytes l at x (put_bytes_of l at x)
  unfolding put_bytes_of put_bytes_at
  bytes_says = says (length l / 4) (pos_of at * 4) all_bytes l at (put_bytes_at l (pos_of at)) (λ n. refl) (λ vs. refl) x

  pub bytes_answers : {z : Answer} → PutsBytes l at x z → put_bytes_of l at x ≡ z
  unfolding put_bytes_of put_bytes_at
  bytes_answers = answers (length l / 4) (pos_of at * 4) all_bytes l at (put_bytes_at l (pos_of at)) (λ n. refl) (λ vs. refl) x

  pub put_exactly : (z : Answer) → (put_of l at x ≡ z) ↔ Puts l at x z
  put_exactly z = (λ e. subst (Puts l at x) e put_says, put_answers)

  pub bytes_exactly : (z : Answer) → (put_bytes_of l at x ≡ z) ↔ PutsBytes l at x z
  bytes_exactly z = (λ e. subst (PutsBytes l at x) e bytes_says, bytes_answers)

  -- with a multiple of 4 for base, what is said is document 01's, and the base with it
  pub put_before : Aligned at → put_of l at x ≡ based_at at.base (put_at l (pos_of at) x)
  unfolding put_of
  put_before a = ap (λ (y : Said (List ℕ)). based_at at.base (put_at l (pos_of at) y)) (based_yes at x a)

  pub bytes_before : Aligned at → put_bytes_of l at x ≡ based_at at.base (put_bytes_at l (pos_of at) x)
  unfolding put_bytes_of
  bytes_before a = ap (λ (y : Said (List ℕ)). based_at at.base (put_bytes_at l (pos_of at) y)) (based_yes at x a)

  -- whatever is asked for, a base that is no multiple of 4 is all that is said
  pub put_15 : (Aligned at → ⊥) → put_of l at x ≡ (no 15, l)
  put_15 h = put_answers (unaligned h)

  pub bytes_15 : (Aligned at → ⊥) → put_bytes_of l at x ≡ (no 15, l)
  bytes_15 h = bytes_answers (unaligned h)

-- what is refused is not written
module _ (l : List ℕ) (at : Place) (n : ℕ) where
  not_done : {room from : ℕ} {spell : List ℕ → List ℕ} {z : Answer} → Says room from spell l at (no n) z → (m : ℕ) × (z.0 ≡ no m)
  not_done (unaligned h) = (15, refl)
  not_done (refused m a e) = (m, refl)
  not_done (full vs a e h) = (8, refl)
  not_done (done vs a e h) = absurd (not_both (sym e))

  pub put_no : (m : ℕ) × ((put_of l at (no n)).0 ≡ no m)
  put_no = not_done (put_says l at (no n))

  pub bytes_no : (m : ℕ) × ((put_bytes_of l at (no n)).0 ≡ no m)
  bytes_no = not_done (bytes_says l at (no n))

-- ---- what a writer said, and what then stands in the run

module _ (room from : ℕ) (spell : List ℕ → List ℕ) (l : List ℕ) (at : Place) (x : Said (List ℕ)) where
  -- words were put: they are what was asked for, they stand from `from` on, the rest is as it was, and the base too
  pub record Put (p : Place) (l' : List ℕ) : Type 0 where
    pub vs : List ℕ
    pub asked : x ≡ ok vs
    pub base : Aligned at
    pub past : p ≡ on at (length vs)
    pub holds : l' ≡ sets l from (spell vs)
    pub fits : pos_of at + length vs ≤ room

  gave : (p : Place) (l' : List ℕ) → Says room from spell l at x (ok p, l') → Put p l'
  gave p l' (done vs a e h) = record { vs = vs; asked = e; base = a; past = refl; holds = refl; fits = h }

  left : (n : ℕ) (l' : List ℕ) → Says room from spell l at x (no n, l') → l' ≡ l
  left n l' (unaligned h) = refl
  left n l' (refused m a e) = refl
  left n l' (full vs a e h) = refl

module _ (l : List ℕ) (at : Place) (x : Said (List ℕ)) (l' : List ℕ) where
  pub put-done : (p : Place) → ◌≡◌ {A = Answer} (ok p, l') (put_of l at x) → Put (length l) (pos_of at) (λ vs. vs) l at x p l'
  put-done p e = gave (length l) (pos_of at) (λ vs. vs) l at x p l' ((put_exactly l at x (ok p, l')).0 (sym e))

  pub bytes_done : (p : Place) → ◌≡◌ {A = Answer} (ok p, l') (put_bytes_of l at x) → Put (length l / 4) (pos_of at * 4) all_bytes l at x p l'
  bytes_done p e = gave (length l / 4) (pos_of at * 4) all_bytes l at x p l' ((bytes_exactly l at x (ok p, l')).0 (sym e))

  -- "A refusal .. changes no word and no position"
  pub put_refused : (n : ℕ) → ◌≡◌ {A = Answer} (no n, l') (put_of l at x) → l' ≡ l
  put_refused n e = left (length l) (pos_of at) (λ vs. vs) l at x n l' ((put_exactly l at x (no n, l')).0 (sym e))

  pub bytes_refused : (n : ℕ) → ◌≡◌ {A = Answer} (no n, l') (put_bytes_of l at x) → l' ≡ l
  bytes_refused n e = left (length l / 4) (pos_of at * 4) all_bytes l at x n l' ((bytes_exactly l at x (no n, l')).0 (sym e))

-- ---- stores, read back

stored : (ws vs : List ℕ) (i : ℕ) → i + length vs ≤ length ws → slice i (i + length vs) (sets ws i vs) ≡ vs
stored ws vs i h =
    let k : length (take i ws) ≡ i = length-take-le i ws (omega arith) in
    ap (slice i (i + length vs)) (sets-eq vs ws i h)
    ∙ ap (drop i) (take_at (take i ws ++ vs) (drop (i + length vs) ws) (i + length vs) (length-append (take i ws) vs ∙ ap (λ (n : ℕ). n + length vs) k))
    ∙ drop_at (take i ws) vs i k

outside : (vs l : List ℕ) (i k : ℕ) → (k < i) ⊎ (i + length vs ≤ k) → get_or (sets l i vs) k 0 ≡ get_or l k 0
outside [] l i k h = refl
outside (v ∷ vs) l i k h =
    outside vs (set l i v) (suc i) k (⊎_elim (λ (a : k < i). inl (omega arith)) (λ (b : i + suc (length vs) ≤ k). inr (omega arith)) h)
    ∙ get_or-set_other l i k v 0 (λ e. ⊎_elim (λ (a : k < i). omega arith) (λ (b : i + suc (length vs) ≤ k). omega arith) h)

length_bytes : (vs : List ℕ) → length (all_bytes vs) ≡ length vs * 4
length_bytes [] = refl
length_bytes (v ∷ vs) = omega (arith, length_bytes vs)

-- bytes that spell words are taken as these words
pub words_back : (vs : List ℕ) → words_in (all_bytes vs) ≡ vs
words_back [] = refl
words_back (v ∷ vs) =
    let e : v % 256 + v / 256 % 256 * 256 + v / 65536 % 256 * 65536 + v / 16777216 * 16777216 ≡ v = omega arith in
    rw (e, words_back vs)

-- from the old position to the new one stand the words that were asked for, and every other word is as before
module _ (l : List ℕ) (at : Place) (x : Said (List ℕ)) (p : Place) (l' : List ℕ) where
  module _ (e : ◌≡◌ {A = Answer} (ok p, l') (put_of l at x)) where
    pub written : x ≡ ok (slice (pos_of at) (pos_of p) l')
    written =
        let d = put-done l at x l' p e in
        d.asked ∙ ap ok (sym (ap (λ (q : Place). slice (pos_of at) (pos_of q) l') d.past ∙ ap (slice (pos_of at) (pos_of at + length d.vs)) d.holds ∙ stored l d.vs (pos_of at) d.fits))

    pub others : (k : ℕ) → (k < pos_of at) ⊎ (pos_of p ≤ k) → get_or l' k 0 ≡ get_or l k 0
    others k h = let d = put-done l at x l' p e in rw d.holds (outside d.vs l (pos_of at) k (rw d.past at h))

  module _ (e : ◌≡◌ {A = Answer} (ok p, l') (put_bytes_of l at x)) where
    abbrev d : Put (length l / 4) (pos_of at * 4) all_bytes l at x p l'
    d = bytes_done l at x l' p e

    end : pos_of p * 4 ≡ pos_of at * 4 + length (all_bytes d.vs)
    end = ap (λ (q : Place). pos_of q * 4) d.past ∙ omega (arith, length_bytes d.vs)

    pub bytes_written : slice (pos_of at * 4) (pos_of p * 4) l' ≡ all_bytes d.vs
    bytes_written =
        ap (λ (k : ℕ). slice (pos_of at * 4) k l') end
        ∙ ap (slice (pos_of at * 4) (pos_of at * 4 + length (all_bytes d.vs))) d.holds
        ∙ stored l (all_bytes d.vs) (pos_of at * 4) (omega (arith, d.fits, length_bytes d.vs))

    pub bytes_others : (k : ℕ) → (k < pos_of at * 4) ⊎ (pos_of p * 4 ≤ k) → get_or l' k 0 ≡ get_or l k 0
    bytes_others k h = rw d.holds (outside (all_bytes d.vs) l (pos_of at * 4) k (rw end at h))
