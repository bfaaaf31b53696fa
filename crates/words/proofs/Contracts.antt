-- What it is for a contract to allow one answer. A contract is a function's own `Reads.Post`: a claim of the lifetimes, the arguments, the answer
-- and the arguments at exit. Assumes nothing.
use Rattle.std.proofs.Common.{◌≡◌, ℕ, List, sym, ap, ◌∙◌}
use Rattle.std.specs.Prelude.{Result}
use Rattle.words.specs.Said.{Said}
use Rattle.words.specs.Answer.{said}
use Rattle.words.specs.declared.Place.{Place}
use Rattle.words.specs.declared.Refusal.{Refusal}
use Rattle.words.proofs.Answers.{said_all}

module _ {K : Type 0} {A R E : K → Type 0} where
  -- two answers that it allows to the same arguments are one
  abbrev pub OneAnswer : ((k : K) → A k → R k → E k → Type 0) → Type 0
  OneAnswer Post = (k : K) (a : A k) (r s : R k) (x y : E k) → Post k a r x → Post k a s y → r ≡ s

  -- and so is what a run that was lent then holds
  abbrev pub OneWrite : {B : Type 0} → ((k : K) → A k → R k → E k → Type 0) → ((k : K) → E k → B) → Type 0
  OneWrite Post run = (k : K) (a : A k) (r s : R k) (x y : E k) → Post k a r x → Post k a s y → (r ≡ s) × (run k x ≡ run k y)

-- ---- by an equation

-- two things that a definition gives are one
pub one_answer : {A : Type 0} {x y z : A} → x ≡ z → y ≡ z → x ≡ y
one_answer p q = p ∙ sym q

-- and so are the parts of two pairs
pub one_pair : {A B : Type 0} {a c : A} {b d : B} {z : A × B} → (a, b) ≡ z → (c, d) ≡ z → (a ≡ c) × (b ≡ d)
one_pair {A} {B} {a} {c} {b} {d} p q =
    let e : ◌≡◌ {A = A × B} (a, b) (c, d) = one_answer p q in
    (ap (λ (k : A × B). k.0) e, ap (λ (k : A × B). k.1) e)

-- a writer's answer, and the run after it
pub one_write : (r s : Result Place Refusal) {l m : List ℕ} {z : Said Place × List ℕ} → (said r, l) ≡ z → (said s, m) ≡ z → (r ≡ s) × (l ≡ m)
one_write r s p q = let e = one_pair p q in (said_all r s e.0, e.1)
