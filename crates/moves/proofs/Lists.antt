-- The list of words as the code builds it, from the lowest halfword up. Assumes nothing.
use mathlib.Core.Path.{◌≡◌, refl, sym, ap, ◌∙◌}
use mathlib.Core.Bool.{Bool, true, false, cond, not}
use mathlib.Core.List.{List, [], ◌∷◌, ◌++◌, append-nil, append_assoc}
use Prim.Native.Nat.{ℕ, zero, suc, ◌+◌, ◌-◌, ◌/◌, ◌%◌, ◌^◌, ◌<◌, ◌≤◌}
use native.Mathlib.Nat.{add-zero, mod-eq_of_lt}
use native.Mathlib.Numerals.{add-one}
use native.Mathlib.Omega.{arith}
use lib.Bits.{bit_and, bit_xor, and_mask, xor_zero_r, xor_add_and}
use lib.Dec.{eqb, eqb-suc-zero}
use lib.ListN.{length, set, get_or, replicate, length-append}
use lib.Seq.{set_at, append_snoc}
use mir.Val.{bool_byte}
use Rattle.words.specs.Listed.{words_of}
use Rattle.words.specs.declared.Words.{Words}
use Rattle.halfwords.specs.Halfwords.{half}
use Rattle.moves.specs.Moves.{word, movz, movn, movk, unless, others, rest, by_movz, by_movn}
use Rattle.moves.specs.Steps.{first_base, first_word, lead}

-- ---- the halfwords that are not f

-- a halfword with its number, or nothing where it is f
abbrev pub part : ℕ → ℕ → ℕ → List (ℕ × ℕ)
part f k j = cond (eqb j f) [] ((k, j) ∷ [])

pub others_parts : (f v : ℕ) → part f 0 (half v 0) ++ part f 1 (half v 1) ++ part f 2 (half v 2) ++ part f 3 (half v 3) ≡ others f v
unfolding others
others_parts f v = sym (on 0 (half v 0) _ (on 1 (half v 1) _ (on 2 (half v 2) _ (on 3 (half v 3) [] refl))) ∙ simp (append_assoc, append-nil))
  where
    on : (k h : ℕ) (ps : List (ℕ × ℕ)) {qs : List (ℕ × ℕ)} → ps ≡ qs → unless f k h ps ≡ part f k h ++ qs
    on k h ps {qs} e = go (eqb h f)
      where
        go : (b : Bool) → cond b ps ((k, h) ∷ ps) ≡ cond b [] ((k, h) ∷ []) ++ qs
        go true = e
        go false = ap (λ (l : List (ℕ × ℕ)). (k, h) ∷ l) e

-- those among the lowest n
abbrev pub among : ℕ → ℕ → ℕ → List (ℕ × ℕ)
among f v zero = []
among f v (suc n) = among f v n ++ part f n (half v n)

-- each has a number below 4 and 16 bits
abbrev pub Halves : List (ℕ × ℕ) → Type 0
Halves [] = Unit
Halves ((k, h) ∷ ps) = (k < 4) × (h < 2 ^ 16) × Halves ps

pub others_halves : (f v : ℕ) → Halves (others f v)
unfolding others
others_halves f v = kept 0 (half v 0) _ (omega arith) (kept 1 (half v 1) _ (omega arith) (kept 2 (half v 2) _ (omega arith) (kept 3 (half v 3) [] (omega arith) tt)))
  where
    kept : (k h : ℕ) (ps : List (ℕ × ℕ)) → (k < 4) × (h < 2 ^ 16) → Halves ps → Halves (unless f k h ps)
    kept k h ps l hs = go (eqb h f)
      where
        go : (b : Bool) → Halves (cond b ps ((k, h) ∷ ps))
        go true = hs
        go false = (l.0, l.1, hs)

-- ---- the list in an array of five

-- the words, then zeros, but for one number at their end, over which the next store goes
pub record Holds (ws : List ℕ) (n : ℕ) (l : List ℕ) : Type 0 where
  pub stale : ℕ
  pub end : length ws ≡ n
  pub is : l ≡ ws ++ stale ∷ replicate (4 - n) 0

pub nothing : Holds [] 0 (replicate 5 0)
nothing = record { stale = 0; end = refl; is = refl }

rest_append : (rd : ℕ) (ps qs : List (ℕ × ℕ)) → rest (ps ++ qs) rd ≡ rest ps rd ++ rest qs rd
rest_append rd [] qs = refl
rest_append rd ((k, h) ∷ ps) qs = rw (rest_append rd ps qs)

-- a store at the end n: the end moves on, unless the halfword is f, and then the word will be stored over
pub more : (rd f k j : ℕ) (ps : List (ℕ × ℕ)) {l : List ℕ} {n m w h : ℕ} → Holds (rest ps rd) n l → n < 4
    → m ≡ n + cond (eqb h f) 0 1 → h ≡ j → w ≡ word movk k h rd → Holds (rest (ps ++ part f k j) rd) m (set l n w)
more rd f k j ps {l} {n} {m} {w} {h} t s e p q = rw (rest_append rd ps (part f k j), e, p) (go (eqb j f))
  where
    ws : List ℕ
    ws = rest ps rd

    stored : set l n w ≡ ws ++ w ∷ replicate (4 - n) 0
    stored = ap (λ (x : List ℕ). set x n w) t.is ∙ set_at ws t.stale (replicate (4 - n) 0) w n t.end

    go : (b : Bool) → Holds (ws ++ rest (cond b [] ((k, j) ∷ [])) rd) (n + cond b 0 1) (set l n w)
    go true = rw (add-zero, append-nil) (record { stale = w; end = t.end; is = stored })
    go false =
        let room : 4 - n ≡ suc (4 - (n + 1)) = omega arith in
        let w-is = q ∙ ap (λ (x : ℕ). word movk k x rd) p in
        record {
          stale = 0;
          end = length-append ws (word movk k j rd ∷ []) ∙ ap (λ (x : ℕ). x + 1) t.end;
          is = stored ∙ rw (room, w-is) (sym (append_snoc ws (word movk k j rd) (0 ∷ replicate (4 - (n + 1)) 0)));
        }

-- the same of the halfword that comes after the lowest k
pub one_more : (rd f v k : ℕ) {l : List ℕ} {n r w h : ℕ} → Holds (rest (among f v k) rd) n l → n < 4
    → h ≡ half v k → r ≡ bool_byte (not (eqb h f)) → w ≡ word movk k h rd → (r ≤ 1) × Holds (rest (among f v (k + 1)) rd) (n + r) (set l n w)
one_more rd f v k {l} {n} {r} {w} {h} t s e p q =
    let m = counted (eqb h f) p in
    (m.1, rw add-one (more rd f k (half v k) (among f v k) t s (ap (λ (x : ℕ). n + x) m.0) e q))
  where
    counted : (b : Bool) → r ≡ bool_byte (not b) → (r ≡ cond b 0 1) × (r ≤ 1)
    counted true p = (p, omega arith)
    counted false p = (p, omega arith)

zeros : (m k : ℕ) → get_or (replicate m 0) k 0 ≡ zero
zeros zero k = refl
zeros (suc m) zero = refl
zeros (suc m) (suc k) = zeros m k

padded : (ws : List ℕ) (m k : ℕ) → get_or (ws ++ replicate m 0) k 0 ≡ get_or ws k 0
padded [] m k = zeros m k
padded (w ∷ ws) m zero = refl
padded (w ∷ ws) m (suc k) = padded ws m k

-- a zero at the end, and the array holds the words and else zeros
module _ (ws : List ℕ) (n : ℕ) (l : List ℕ) (t : Holds ws n l) where
  read : (k : ℕ) → get_or (set l n 0) k 0 ≡ get_or ws k 0
  read k = ap (λ (x : List ℕ). get_or (set x n 0) k 0) t.is
      ∙ ap (λ (x : List ℕ). get_or x k 0) (set_at ws t.stale (replicate (4 - n) 0) 0 n t.end) ∙ padded ws (suc (4 - n)) k

  pub held : record { count = n; a = get_or (set l n 0) 0 0; b = get_or (set l n 0) 1 0; c = get_or (set l n 0) 2 0; d = get_or (set l n 0) 3 0 } ≡ words_of ws
  held = rw (read 0, read 1, read 2, read 3, ← t.end)

-- ---- the first word

-- the first of a list by what it was
turned : ℕ → (ℕ → ℕ) → List ℕ → List ℕ
turned z g [] = z ∷ []
turned z g (w ∷ ws) = g w ∷ ws

led : (z : ℕ) (g : ℕ → ℕ) (ws : List ℕ) → lead z (g (words_of ws).a) (words_of ws) ≡ words_of (turned z g ws)
unfolding lead turned
led z g [] = refl
led z g (w ∷ ws) = rw (eqb-suc-zero (length ws))

flip : (h : ℕ) → h < 2 ^ 16 → bit_xor h 0xFFFF ≡ 0xFFFF - h
flip h l = let m : bit_and h (2 ^ 16 - 1) ≡ h = and_mask h 16 ∙ mod-eq_of_lt l in omega (arith, xor_add_and h 0xFFFF, m)

module _ (rd : ℕ) (rd_is : rd < 31) where
  first-is : (f k h : ℕ) → k < 4 → h < 2 ^ 16 → first_word f (word movk k h rd) ≡ word (first_base f) k (bit_xor h f) rd
  first-is f k h kl hl =
      let w = word movk k h rd in
      let p : w / 2 ^ 21 % 4 ≡ k = omega arith in
      let q : w / 2 ^ 5 % 2 ^ 16 ≡ h = omega arith in
      let r : w % 2 ^ 5 ≡ rd = omega arith in
      rw (p, q, r)

  first_movz : (ps : List (ℕ × ℕ)) → Halves ps → turned (first_base 0 + rd) (first_word 0) (rest ps rd) ≡ by_movz ps rd
  unfolding turned
  first_movz [] hs = refl
  first_movz ((k, h) ∷ ps) hs = ap (λ (w : ℕ). w ∷ rest ps rd) (first-is 0 k h hs.0 hs.1 ∙ ap (λ (x : ℕ). word movz k x rd) (xor_zero_r h))

  first_movn : (ps : List (ℕ × ℕ)) → Halves ps → turned (first_base 0xFFFF + rd) (first_word 0xFFFF) (rest ps rd) ≡ by_movn ps rd
  unfolding turned
  first_movn [] hs = refl
  first_movn ((k, h) ∷ ps) hs = ap (λ (w : ℕ). w ∷ rest ps rd) (first-is 0xFFFF k h hs.0 hs.1 ∙ ap (λ (x : ℕ). word movn k x rd) (flip h hs.1))

  -- what the code does to the list is what is asked
  pub long_by : (v : ℕ) {f z w : ℕ} {q : Words} (t : Bool) → f ≡ cond t 0 0xFFFF → z ≡ first_base f → w ≡ first_word f q.a → q ≡ words_of (rest (others f v) rd)
      → lead (z + rd) w q ≡ words_of (cond t (by_movz (others 0 v) rd) (by_movn (others 0xFFFF v) rd))
  long_by v true p z w e = rw (z, w, e, p) (led _ (first_word 0) (rest (others 0 v) rd) ∙ ap words_of (first_movz (others 0 v) (others_halves 0 v)))
  long_by v false p z w e =
      rw (z, w, e, p) (led _ (first_word 0xFFFF) (rest (others 0xFFFF v) rd) ∙ ap words_of (first_movn (others 0xFFFF v) (others_halves 0xFFFF v)))
