-- Up to four words stored from last to first, each spelled by so many units of the run: one law for words and bytes. Assumes nothing.
use mathlib.Core.Path.{◌≡◌, refl, sym, ap, ◌∙◌}
use mathlib.Core.List.{List, [], ◌∷◌, ◌++◌, append-nil, append_assoc}
use Prim.Native.Nat.{ℕ, zero, suc, ◌+◌, ◌-◌, ◌*◌, ◌≤◌, ◌<◌, min}
use native.Mathlib.Nat.{add-zero}
use native.Mathlib.Omega.{arith}
use borrow.Rule.Slice.PartMut.{put_mid}
use lib.ListN.{length, set, take, drop}
use lib.Seq.{sets, sets-eq, set-set, set_comm, take-nil}
use Rattle.std.specs.List.{flat_map}
use Rattle.std.proofs.lemmas.List.Edits.{paste_all}
use Rattle.std.proofs.lemmas.Slice.{put_mid-paste}

-- a part of a run, copied over, is stored there
pub part : {A : Type 0} (l vs : List A) (i k : ℕ) → length vs ≡ k → i + k ≤ length l → put_mid i k l vs ≡ sets l i vs
part l vs i k e h =
    let there : i + length vs ≤ length l = omega arith in
    put_mid-paste i k l vs vs k refl refl (sym e) ∙ paste_all l i vs k (sym e) ∙ rw (← e) (sym (sets-eq vs l i there ∙ append_assoc (take i l) vs (drop (i + length vs) l)))

-- a store below a run of stores may come first
below : {A : Type 0} (vs l : List A) (i j : ℕ) (a : A) → j < i → set (sets l i vs) j a ≡ sets (set l j a) i vs
below [] l i j a h = refl
below {A} (v ∷ vs) l i j a h =
    below vs (set l i v) (suc i) j a (omega arith) ∙ ap (λ (t : List A). sets t (suc i) vs) (set_comm l i j v a (λ e. omega arith))

-- stores in front of stores are one run of stores
front : {A : Type 0} (xs ys l : List A) (i : ℕ) → sets (sets l (i + length xs) ys) i xs ≡ sets l i (xs ++ ys)
front [] ys l i = ap (λ (k : ℕ). sets l k ys) (add-zero i)
front {A} (x ∷ xs) ys l i =
    let e : i + suc (length xs) ≡ suc i + length xs = omega arith in
    ap (λ (t : List A). sets t (suc i) xs) (below ys l (i + suc (length xs)) i x (omega arith) ∙ ap (λ (k : ℕ). sets (set l i x) k ys) e)
    ∙ front xs ys (set l i x) (suc i)

-- stores over as many stores
over : {A : Type 0} (xs ys l : List A) (i : ℕ) → length xs ≡ length ys → sets (sets l i xs) i ys ≡ sets l i ys
over [] [] l i e = refl
over [] (y ∷ ys) l i e = absurd (omega arith)
over (x ∷ xs) [] l i e = absurd (omega arith)
over {A} (x ∷ xs) (y ∷ ys) l i e =
    ap (λ (t : List A). sets t (suc i) ys) (below xs (set l i x) (suc i) i y (omega arith) ∙ ap (λ (t : List A). sets t (suc i) xs) (set-set l i x y))
    ∙ over xs ys (set l i y) (suc i) (omega arith)

module _ {A : Type 0} (u : ℕ) (spell : ℕ → List A) (units : (w : ℕ) → length (spell w) ≡ u) (i : ℕ) where
  -- the word w stored at place k
  abbrev stored : List A → ℕ → ℕ → List A
  stored l k w = sets l ((i + k) * u) (spell w)

  again : (l : List A) (k w v : ℕ) → stored (stored l k w) k v ≡ stored l k v
  again l k w v = over (spell w) (spell v) l ((i + k) * u) (units w ∙ sym (units v))

  abbrev all : List A → ℕ → List ℕ → List A
  all l k ws = sets l ((i + k) * u) (flat_map spell ws)

  last_one : (l : List A) (k w : ℕ) → stored l k w ≡ all l k (w ∷ [])
  last_one l k w = ap (sets l ((i + k) * u)) (sym (append-nil (spell w)))

  -- one word more, in front of those that stand from the next place on
  more : (l : List A) (k w : ℕ) (ws : List ℕ) → stored (all l (suc k) ws) k w ≡ all l k (w ∷ ws)
  more l k w ws =
      let e : (i + suc k) * u ≡ (i + k) * u + length (spell w) = omega (arith, units w) in
      rw e (front (spell w) (flat_map spell ws) l ((i + k) * u))

  -- four stores, each at its place or at the last place where that is nearer
  abbrev pub four : List A → ℕ → ℕ → ℕ → ℕ → ℕ → List A
  four l last a b c d = stored (stored (stored (stored l (min last 3) d) (min last 2) c) (min last 1) b) 0 a

  pub stores : (n a b c d : ℕ) (l : List A) → 0 < n → four l (min n 4 - 1) a b c d ≡ all l 0 (take n (a ∷ b ∷ c ∷ d ∷ []))
  stores zero a b c d l h = absurd (omega arith)
  stores (suc zero) a b c d l h = simp again (last_one l 0 a)
  stores (suc (suc zero)) a b c d l h = simp again (rw (last_one l 1 b) (more l 0 a (b ∷ [])))
  stores (suc (suc (suc zero))) a b c d l h = simp again (rw (last_one l 2 c, more l 1 b (c ∷ [])) (more l 0 a (b ∷ c ∷ [])))
  stores (suc (suc (suc (suc n)))) a b c d l h =
      let e : min (suc (suc (suc (suc n)))) 4 ≡ 4 = omega arith in
      rw (e, take-nil n, last_one l 3 d, more l 2 c (d ∷ []), more l 1 b (c ∷ d ∷ [])) (more l 0 a (b ∷ c ∷ d ∷ []))
