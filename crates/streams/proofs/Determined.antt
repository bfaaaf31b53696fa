-- Where the bytes of a reader are known and no read fails, `read_full` and `fill` have one answer by their contracts: how many bytes were read, which
-- they are, and what is left. Assumes nothing.
use Rattle.std.proofs.Common.{◌≡◌, ℕ, ◌+◌, ◌<◌, ◌≤◌, Bool, true, false, List, [], ◌++◌, Some, None, Ok, length, take, drop, sym, ap, ◌∙◌, refl, arith, length-append, length-take-le}
use Rattle.std.proofs.Math.Seq.{take-append_seam, drop-append_seam}
use Rattle.std.specs.Io.KnownBytes.{Consumes, IsAtEnd}
use Rattle.std.specs.declared.option.Option.{Option}
use borrow.Author.Tests.{ltb-true, ltb-false}
use lib.Dec.{ltb}
use denote.RattleType.{RattleType}
use denote.Param.Laws.{Laws}
use mir.Syntax.{Dict}
use Rattle.std.specs.declared.io.traits.Read.{Ghosts}
use Rattle.std.specs.declared.io.Eprint.{Ghosts as Handle}
use Rattle.streams.proofs.read_full.Reads as read_full
use Rattle.streams.proofs.fill.Reads as fill

-- what both contracts say of an answer: the reader gave n bytes, which stand at the start of the buffer, and fewer than that holds only where none is left
pub record Gave (old new : Option (List ℕ)) (n : ℕ) (buf : List ℕ) : Type 0 where
  pub within : n ≤ length buf
  pub bytes : Consumes old new (take n buf)
  pub end : n < length buf → IsAtEnd new

same : (n m : ℕ) → (n < m → ⊥) → (m < n → ⊥) → n ≡ m
same n m p q = go (ltb n m) (ltb m n) refl refl
  where
    go : (a b : Bool) → ltb n m ≡ a → ltb m n ≡ b → n ≡ m
    go true b e f = absurd (p (ltb-true n m e))
    go false true e f = absurd (q (ltb-true m n f))
    go false false e f = let h = ltb-false n m e in let k = ltb-false m n f in omega arith

at_end : {new : Option (List ℕ)} (t : List ℕ) → new ≡ Some t → IsAtEnd new → t ≡ []
at_end t e h = rw e at h

module _ {s : List ℕ} where
  -- the bytes that are left
  left : {new : Option (List ℕ)} {n : ℕ} {buf : List ℕ} → Gave (Some s) new n buf → (t : List ℕ) × (new ≡ Some t) × (s ≡ take n buf ++ t)
  left {new = None} g = absurd g.bytes
  left {new = Some t} g = (t, refl, g.bytes)

  module _ {new : Option (List ℕ)} {n : ℕ} {buf : List ℕ} (g : Gave (Some s) new n buf) where
    count : length s ≡ n + length (left g).0
    count = ap length (left g).2 ∙ length-append (take n buf) (left g).0 ∙ ap (λ (k : ℕ). k + length (left g).0) (length-take-le n buf g.within)

    all : n < length buf → n ≡ length s
    all h = let e = ap length (at_end (left g).0 (left g).1 (g.end h)) in let c = count in omega (arith, e, c)

    pub given : take n buf ≡ take n s
    given =
        let t = (left g).0 in
        sym (take-append_seam (take n buf) t) ∙ ap (λ (k : ℕ). take k (take n buf ++ t)) (length-take-le n buf g.within) ∙ ap (take n) (sym (left g).2)

    pub rest : new ≡ Some (drop n s)
    rest =
        let t = (left g).0 in
        (left g).1 ∙ ap Some (sym (drop-append_seam (take n buf) t) ∙ ap (λ (k : ℕ). drop k (take n buf ++ t)) (length-take-le n buf g.within) ∙ ap (drop n) (sym (left g).2))

  -- two answers are one
  pub one_reading : {new new' : Option (List ℕ)} {n m : ℕ} {buf buf' : List ℕ} → length buf ≡ length buf' → Gave (Some s) new n buf → Gave (Some s) new' m buf'
      → (n ≡ m) × (take n buf ≡ take m buf') × (new ≡ new')
  one_reading {n = n} {m = m} l g h =
      let e : n ≡ m =
      same n m (λ k. omega (arith, all g (omega (arith, k, h.within, l)), count h, k)) (λ k. omega (arith, all h (omega (arith, k, g.within, l)), count g, k)) in
      (e, given g ∙ ap (λ (k : ℕ). take k s) e ∙ sym (given h), rest g ∙ ap (λ (k : ℕ). Some (drop k s)) e ∙ sym (rest h))

-- two answers that a contract allows to the same arguments are one where the reader's bytes are known: n bytes were read, which stand at the start of the
-- buffer, and what is left is known
abbrev pub OneRead : {K : Type 0} {A R E : K → Type 0} → ((k : K) → A k → R k → E k → Type 0) → ((k : K) → A k → Option (List ℕ)) → ((k : K) → E k → Option (List ℕ))
    → ((k : K) → E k → List ℕ) → ((k : K) → R k → ℕ → Type 0) → Type 0
OneRead {K} {A} {R} {E} Post old new buf reads = (k : K) (a : A k) (p q : R k) (x y : E k) (n m : ℕ) (s : List ℕ) → old k a ≡ Some s → length (buf k x) ≡ length (buf k y)
    → reads k p n → reads k q m → Post k a p x → Post k a q y → (n ≡ m) × (take n (buf k x) ≡ take m (buf k y)) × (new k x ≡ new k y)

module _ (T : RattleType) (L : Laws T) (G : Ghosts T.Denot) (d : Dict) where
  pub read_full_determined : OneRead (read_full.Post T L G d) (λ k a. G.remaining a.0.now) (λ k x. G.remaining x.0.now) (λ k x. x.1.0.now) (λ k r n. r ≡ Ok n)
  read_full_determined k a p q x y n m s e l u v f g =
      let b = rw u at f.0 in
      let c = rw v at g.0 in
      let i = rw (u, e) at f.1.1.0 in
      let j = rw (v, e) at g.1.1.0 in
      let h = rw u at f.1.1.1 in
      let z = rw v at g.1.1.1 in
      one_reading l (record { within = b.0; bytes = i; end = h }) (record { within = c.0; bytes = j; end = z })

module _ (T U : RattleType) (L : Laws T) (M : Laws U) (G : Ghosts T.Denot) (d : Dict) (H : Handle U.Denot) (h : Dict) where
  pub fill_determined
      : OneRead (fill.Post T U L M G d H h) (λ k a. G.remaining a.1.0.now) (λ k x. G.remaining x.1.0.now) (λ k x. x.1.1.0.now) (λ k r n. (r.count ≡ n) × (r.failed ≡ false))
  fill_determined k a p q x y n m s e l u v f g =
      let b = rw u.0 at f.0 in
      let c = rw v.0 at g.0 in
      let i = rw (u.0, e) at f.1.0 in
      let j = rw (v.0, e) at g.1.0 in
      let w = rw u.0 at f.1.1 u.1 in
      let z = rw v.0 at g.1.1 v.1 in
      one_reading l (record { within = b; bytes = i; end = w }) (record { within = c; bytes = j; end = z })
