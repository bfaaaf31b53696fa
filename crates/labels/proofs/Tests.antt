-- Tests in an order, and what an answer by their number leaves. Assumes nothing.
use mathlib.Core.Path.{◌≡◌, refl, sym, ap, subst, ◌∙◌}
use mathlib.Core.Bool.{Bool, true, false, cond}
use mathlib.Core.List.{List, [], ◌∷◌, ◌++◌}
use Prim.Native.Nat.{ℕ, zero, suc}
use native.Mathlib.Omega.{arith}
use borrow.Author.Tests.{eqb-true}
use lib.Dec.{eqb}
use Rattle.arm.proofs.Tests.{never}
use Rattle.std.specs.Prelude.{Result, Ok, Err}
use Rattle.words.specs.Said.{Said, ok, no}
use Rattle.words.specs.declared.Refusal.{Refusal}
use Rattle.words.specs.Answer.{number_of, refusal_of, IsNumber}
use Rattle.words.proofs.Answers.{refusal_back, number_all, number_fits, not_both}
use Rattle.labels.specs.Order.{first, or_else, answer, code_of}
use Rattle.labels.specs.Sheet.{counted_of}

pub both : (a b : Bool) → cond a b false ≡ true → (a ≡ true) × (b ≡ true)
both true b h = (refl, h)
both false b h = never (sym h)

-- ---- numbers of refusals

-- the refusal of a refusal's number has that number
pub number_back : {n : ℕ} → IsNumber n → number_of (refusal_of n) ≡ n
number_back (r, e) = ap (λ (m : ℕ). number_of (refusal_of m)) (sym e) ∙ ap number_of (refusal_back r) ∙ e

-- 0, or a refusal's number
abbrev pub Coded : ℕ → Type 0
Coded zero = Unit
Coded (suc n) = IsNumber (suc n)

pub coded : (n : ℕ) → IsNumber n → Coded n
coded zero h = tt
coded (suc n) h = h

-- which refuses
pub refuses : (r : Refusal) → number_of r ≡ 0 → ⊥
refuses r e = let h = number_fits {n = number_of r} (r, refl) in omega arith

-- a test's answer is known by its number
pub code_all : (r s : Result Unit Refusal) → code_of r ≡ code_of s → r ≡ s
code_all (Ok u) (Ok v) e = refl
code_all (Ok u) (Err s) e = absurd (refuses s (sym e))
code_all (Err r) (Ok u) e = absurd (refuses r e)
code_all (Err r) (Err s) e = ap Err (number_all r s e)

-- ---- tests in an order

-- every test is passed
abbrev pub Passed : List (Bool × ℕ) → Type 0
Passed [] = Unit
Passed (t ∷ ts) = (t.0 ≡ true) × Passed ts

-- every number that is listed is a refusal's
abbrev pub Numbers : List (Bool × ℕ) → Type 0
Numbers [] = Unit
Numbers (t ∷ ts) = IsNumber t.1 × Numbers ts

-- which is seen by looking each up
abbrev listed : List (Bool × ℕ) → Bool
listed [] = true
listed (t ∷ ts) = cond (eqb (number_of (refusal_of t.1)) t.1) (listed ts) false

pub numbers : (ts : List (Bool × ℕ)) → listed ts ≡ true → Numbers ts
numbers [] h = tt
numbers (t ∷ ts) h =
    let s = both (eqb (number_of (refusal_of t.1)) t.1) (listed ts) h in
    ((refusal_of t.1, eqb-true _ _ s.0), numbers ts s.1)

pub first_append : (ts us : List (Bool × ℕ)) (k : ℕ) → first (ts ++ us) k ≡ first ts (first us k)
first_append [] us k = refl
first_append (t ∷ ts) us k = ap (λ (n : ℕ). cond t.0 n t.1) (first_append ts us k)

-- where all are passed, what comes after them decides
pub passed_first : (ts : List (Bool × ℕ)) (k : ℕ) → Passed ts → first ts k ≡ k
passed_first [] k p = refl
passed_first (t ∷ ts) k p = ap (λ (b : Bool). cond b (first ts k) t.1) p.0 ∙ passed_first ts k p.1

-- and 0 says that all are passed
pub first_passed : (ts : List (Bool × ℕ)) (k : ℕ) → Numbers ts → first ts k ≡ 0 → Passed ts × (k ≡ 0)
first_passed [] k n h = (tt, h)
first_passed (t ∷ ts) k n h = go t.0 refl (first_passed ts k n.1) h
  where
    go : (b : Bool) → t.0 ≡ b → (first ts k ≡ 0 → Passed ts × (k ≡ 0)) → cond b (first ts k) t.1 ≡ 0 → Passed (t ∷ ts) × (k ≡ 0)
    go true e more z = let r = more z in ((e, r.0), r.1)
    go false e more z = absurd (omega (arith, number_fits n.0))

-- of two numbers the first that refuses
pub first_then : (ts : List (Bool × ℕ)) (k : ℕ) → Numbers ts → first ts k ≡ or_else (first ts 0) k
first_then [] k n = refl
first_then (t ∷ ts) k n = go t.0 (first_then ts k n.1)
  where
    other : (m : ℕ) → IsNumber m → m ≡ or_else m k
    other zero h = absurd (omega (arith, number_fits h))
    other (suc m) h = refl

    go : (b : Bool) → first ts k ≡ or_else (first ts 0) k → cond b (first ts k) t.1 ≡ or_else (cond b (first ts 0) t.1) k
    go true more = more
    go false more = other t.1 n.0

pub or-none : (r k : ℕ) → or_else r k ≡ 0 → (r ≡ 0) × (k ≡ 0)
or-none zero k h = (refl, h)
or-none (suc r) k h = absurd (omega arith)

pub or_next : (r k : ℕ) → r ≡ 0 → or_else r k ≡ k
or_next zero k h = refl
or_next (suc r) k h = absurd (omega arith)

pub or_stop : (r k : ℕ) → (r ≡ 0 → ⊥) → or_else r k ≡ r
or_stop zero k h = absurd (h refl)
or_stop (suc r) k h = refl

-- what is given is 0 or a refusal's number
pub first_coded : (ts : List (Bool × ℕ)) (k : ℕ) → Numbers ts → Coded k → Coded (first ts k)
first_coded [] k n c = c
first_coded (t ∷ ts) k n c = go t.0 (first_coded ts k n.1 c)
  where
    go : (b : Bool) → Coded (first ts k) → Coded (cond b (first ts k) t.1)
    go true more = more
    go false more = coded t.1 n.0

pub or_coded : (r k : ℕ) → Coded r → Coded k → Coded (or_else r k)
or_coded zero k c d = d
or_coded (suc r) k c d = c

-- ---- an answer by a number

module _ {A B : Type 0} (x : A) (old new : B) where
  -- refused: what was lent is as it was, and the number is the one given
  pub answer_refused : (r k : ℕ) (b : B) → ◌≡◌ {A = Said A × B} (no k, b) (answer r x old new) → b ≡ old
  answer_refused zero k b h = absurd (not_both (sym (ap (λ (p : Said A × B). p.0) h)))
  answer_refused (suc r) k b h = ap (λ (p : Said A × B). p.1) h

  pub answer_why : (r k : ℕ) (b : B) → ◌≡◌ {A = Said A × B} (no k, b) (answer r x old new) → (r ≡ k) × (k ≡ 0 → ⊥)
  answer_why zero k b h = absurd (not_both (sym (ap (λ (p : Said A × B). p.0) h)))
  answer_why (suc r) k b h =
      let e = ap (λ (p : Said A × B). p.0) h in
      let s : suc r ≡ k = cc in
      (s, λ z. omega arith)

  -- accepted: nothing refused, and what was lent is the new
  pub answer_done : (r : ℕ) (y : A) (b : B) → ◌≡◌ {A = Said A × B} (ok y, b) (answer r x old new) → (r ≡ 0) × (y ≡ x) × (b ≡ new)
  answer_done zero y b h = let e = ap (λ (p : Said A × B). p.0) h in (refl, cc, ap (λ (p : Said A × B). p.1) h)
  answer_done (suc r) y b h = absurd (not_both (ap (λ (p : Said A × B). p.0) h))

  -- the number that is said is a refusal's
  pub answer_number : (r k : ℕ) (b : B) → Coded r → ◌≡◌ {A = Said A × B} (no k, b) (answer r x old new) → IsNumber k
  answer_number zero k b c h = absurd (not_both (sym (ap (λ (p : Said A × B). p.0) h)))
  answer_number (suc r) k b c h = subst IsNumber (answer_why (suc r) k b h).0 c

-- a count's answer by its number is that of the definition
module _ {B : Type 0} (n r : ℕ) (old new : B) where
  pub counted_done : r ≡ 0 → ◌≡◌ {A = Said ℕ × B} (counted_of n r, new) (answer r n old new)
  counted_done e = rw e

  pub counted_kept : (r ≡ 0 → ⊥) → Coded r → ◌≡◌ {A = Said ℕ × B} (counted_of n r, old) (answer r n old new)
  counted_kept h c = go r h c
    where
      go : (r : ℕ) → (r ≡ 0 → ⊥) → Coded r → ◌≡◌ {A = Said ℕ × B} (counted_of n r, old) (answer r n old new)
      go zero h c = absurd (h refl)
      go (suc r) h c = ap (λ (k : ℕ). (no k, old)) (number_back c)
