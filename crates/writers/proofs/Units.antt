-- What the generic writer says and leaves, in each event; and what that is of words and of bytes. Assumes nothing.
use mathlib.Core.Path.{◌≡◌, refl, ap}
use mathlib.Core.Bool.{Bool, true, false, cond}
use mathlib.Core.List.{List, [], ◌∷◌, ◌++◌}
use Prim.Native.Nat.{ℕ, ◌+◌, ◌*◌, ◌/◌, ◌≤◌, ◌<◌}
use native.Mathlib.Omega.{arith}
use borrow.Author.Tests.{le-leb, lt-leb}
use lib.ListN.{length}
use lib.Seq.{sets}
use Rattle.std.specs.List.{flat_map}
use Rattle.words.specs.Said.{Said, ok, no}
use Rattle.words.specs.Place.{pos_of, on}
use Rattle.words.specs.declared.Place.{Place}
use Rattle.writers.specs.Put.{bytes_of, all_bytes, put_at, put_bytes_at, based, based_at, put_of, put_bytes_of}
use Rattle.writers.specs.Units.{units_at, put_units}

module _ {A : Type 0} (size : ℕ) (spell : ℕ → List A) (us : List A) (at : Place) (x : Said (List ℕ)) where
  pub units_no : {n : ℕ} → no n ≡ based at x → (no n, us) ≡ put_units size spell us at x
  unfolding put_units units_at
  units_no e = rw (← e) refl

  pub units_full : {vs : List ℕ} → ok vs ≡ based at x → length us / size < pos_of at + length vs → (no 8, us) ≡ put_units size spell us at x
  unfolding put_units units_at
  units_full e h = rw (← e, lt-leb _ _ h) refl

  pub units_done : {vs : List ℕ} → ok vs ≡ based at x → pos_of at + length vs ≤ length us / size
      → (ok (on at (length vs)), sets us (pos_of at * size) (flat_map spell vs)) ≡ put_units size spell us at x
  unfolding put_units units_at
  units_done e h = rw (← e, le-leb _ _ h) refl

-- a word of a run of words spells itself
flat_words : (ws : List ℕ) → flat_map (λ w. w ∷ []) ws ≡ ws
flat_words [] = refl
flat_words (w ∷ ws) = ap (λ (t : List ℕ). w ∷ t) (flat_words ws)

flat_bytes : (ws : List ℕ) → flat_map bytes_of ws ≡ all_bytes ws
flat_bytes [] = refl
flat_bytes (w ∷ ws) = ap (λ (t : List ℕ). bytes_of w ++ t) (flat_bytes ws)

module _ (us : List ℕ) (at : Place) where
  -- a test of the room may stand within what gives the base back, or outside it
  based_cond : (b : Bool) (n : ℕ) (vs : List ℕ)
      → cond b (ok (on at n), vs) (no 8, us) ≡ based_at at.base (cond b (ok (pos_of at + n), vs) (no 8, us))
  based_cond true n vs = refl
  based_cond false n vs = refl

  pub of_words : (x : Said (List ℕ)) → put_units 1 (λ w. w ∷ []) us at x ≡ put_of us at x
  unfolding put_units units_at put_of put_at
  of_words x = go (based at x)
    where
      go : (y : Said (List ℕ)) → units_at 1 (λ w. w ∷ []) us at y ≡ based_at at.base (put_at us (pos_of at) y)
      go (no n) = refl
      go (ok vs) = let e : length us / 1 ≡ length us = omega arith in let f : pos_of at * 1 ≡ pos_of at = omega arith in rw (e, f, flat_words vs) (based_cond _ _ _)

  pub of_bytes : (x : Said (List ℕ)) → put_units 4 bytes_of us at x ≡ put_bytes_of us at x
  unfolding put_units units_at put_bytes_of put_bytes_at
  of_bytes x = go (based at x)
    where
      go : (y : Said (List ℕ)) → units_at 4 bytes_of us at y ≡ based_at at.base (put_bytes_at us (pos_of at) y)
      go (no n) = refl
      go (ok vs) = rw (flat_bytes vs) (based_cond _ _ _)
