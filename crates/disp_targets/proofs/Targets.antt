-- The low bits beside what is said of a target: at format 4 the target's, elsewhere none, and none beside a refusal. Assumes nothing.
use Rattle.std.proofs.Common.{◌≡◌, ℕ, ◌%◌, ◌<◌, Bool, true, false, cond, eqb, List, sym, refl, ap, ◌∙◌, mod-lt, arith, pow_pos, eq-eqb, ne_eqb, eqb-true}
use mathlib.Core.Option.{Option, some, none}
use Rattle.words.specs.Said.{Said, ok, no}
use Rattle.words.specs.Listed.{packed}
use Rattle.words.specs.declared.Place.{Place}
use Rattle.words.proofs.Answers.{Short, list_back, not_both}
use Rattle.displacements.proofs.Answers.{short}
use Rattle.disp_targets.specs.Target.{page_of, between, target_said, low_of, carrying, carried, put_to}

module _ (n t : ℕ) where
  pub low_page : n ≡ 4 → low_of n t ≡ some (t % 4096)
  low_page e = simp (eq-eqb n 4 e)

  pub low_none : (n ≡ 4 → ⊥) → low_of n t ≡ none
  low_none h = simp (ne_eqb n 4 h)

  -- of a value, or of a refusal
  module _ {A : Type 0} (s : Said A) where
    pub with_page : (x : A) (l : ℕ) → s ≡ ok x → n ≡ 4 → l ≡ t % 4096 → ok (x, some l) ≡ carrying (low_of n t) s
    with_page x l e four low = rw (e, low_page four, low)

    pub with_none : (x : A) → s ≡ ok x → (n ≡ 4 → ⊥) → ok (x, none) ≡ carrying (low_of n t) s
    with_none x e other = rw (e, low_none other)

    pub with_refusal : (k : ℕ) → s ≡ no k → no k ≡ carrying (low_of n t) s
    with_refusal k e = rw e

-- ---- a word by value and its low bits, put by a writer

-- what a writer says of the words, and the low bits beside it
pub beside : (l : Option ℕ) (s : Said Place) (y : Said (Place × Option ℕ)) (ws : List ℕ) (z : Said Place × List ℕ) → y ≡ carrying l s → (s, ws) ≡ z → (y, ws) ≡ carried l z
beside l s y ws z p q = ap (λ (k : Said (Place × Option ℕ)). (k, ws)) p ∙ ap (carried l) q

-- a refusal has nothing beside it, whatever it would carry
carried_no : {A : Type 0} (l k : Option ℕ) (z : Said A × List ℕ) (n : ℕ) → z.0 ≡ no n → carried l z ≡ carried k z
carried_no {A} l k z n e = ap (λ (x : Said A). carried l (x, z.1)) e ∙ sym (ap (λ (x : Said A). carried k (x, z.1)) e)

-- a target has at most one word
pub target_short : (n b t a : ℕ) → Short (target_said n b t a)
target_short n b t a = short n b (between (page_of n t) (page_of n a))

-- for either writer, of which all that is known is that it refuses what is refused
module _ (put : Said (List ℕ) → Said Place × List ℕ) (refuses : (n : ℕ) → (m : ℕ) × ((put (no n)).0 ≡ no m)) where
  pub put_to_lem : (l : Option ℕ) (x : Said (List ℕ)) → Short x → put_to put (carrying l (packed x)) ≡ carried l (put x)
  put_to_lem l (ok vs) h = ap (λ (us : List ℕ). carried l (put (ok us))) (list_back vs h)
  put_to_lem l (no n) h = carried_no none l (put (no n)) (refuses n).0 (refuses n).1

  pub put_target_lem : (n b t a : ℕ) → put_to put (carrying (low_of n t) (packed (target_said n b t a))) ≡ carried (low_of n t) (put (target_said n b t a))
  put_target_lem n b t a = put_to_lem (low_of n t) (target_said n b t a) (target_short n b t a)

-- ---- and back

module _ {A : Type 0} (l : Option ℕ) where
  pub carrying_parts : (s : Said A) (x : A) (l' : Option ℕ) → carrying l s ≡ ok (x, l') → (s ≡ ok x) × (l ≡ l')
  carrying_parts (ok y) x l' e =
      let same : ◌≡◌ {A = A × Option ℕ} (y, l) (x, l') = cc in
      (ap (λ (k : A × Option ℕ). ok k.0) same, ap (λ (k : A × Option ℕ). k.1) same)
  carrying_parts (no n) x l' e = absurd (not_both (sym e))

pub carried_parts : (l : Option ℕ) (z : Said Place × List ℕ) (p : Place) (l' : Option ℕ) (ws : List ℕ) → (ok (p, l'), ws) ≡ carried l z → ((ok p, ws) ≡ z) × (l ≡ l')
carried_parts l z p l' ws e =
    let k = carrying_parts l z.0 p l' (sym (ap (λ (y : Said (Place × Option ℕ) × List ℕ). y.0) e)) in
    let same : z.1 ≡ ws = sym (ap (λ (y : Said (Place × Option ℕ) × List ℕ). y.1) e) in
    (rw (← k.0, ← same) refl, k.1)

-- low bits are carried at format 4 alone, and are the target's
pub low_four : (n t l : ℕ) → low_of n t ≡ some l → (n ≡ 4) × (l ≡ t % 4096)
low_four n t l e = go (eqb n 4) refl e
  where
    go : (x : Bool) → eqb n 4 ≡ x → cond x (some (t % 4096)) none ≡ some l → (n ≡ 4) × (l ≡ t % 4096)
    go true q e = (eqb-true n 4 q, cc)
    go false q e = let z : ◌≡◌ {A = ℕ} 0 1 = cc in absurd (omega arith)

-- and below 4096
pub low_fits : {A : Type 0} (n t : ℕ) (s : Said A) (x : A) (l : ℕ) → carrying (low_of n t) s ≡ ok (x, some l) → l < 4096
low_fits n t s x l e = rw (low_four n t l (carrying_parts (low_of n t) s x (some l) e).1).1 (mod-lt t (pow_pos 12))
