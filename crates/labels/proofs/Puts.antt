-- Numbers stored at places that are all different may be stored in any order. Assumes nothing.
use mathlib.Core.Path.{◌≡◌, refl, sym, ap, subst, ◌∙◌}
use mathlib.Core.List.{List, [], ◌∷◌, ◌++◌, Permᴰ}
use Prim.Native.Nat.{ℕ, zero, suc, ◌<◌}
use native.Mathlib.Nat.{not-suc-le-zero}
use native.Mathlib.Omega.{arith}
use lib.ListN.{length, get_or, set, length-set}
use lib.Seq.{set_comm, get_or-set_same, get_or-set_other}
use Rattle.labels.specs.Puts.{puts, Free, Apart}

pub length_puts : (l : List ℕ) (ps : List (ℕ × ℕ)) → length (puts l ps) ≡ length l
length_puts l [] = refl
length_puts l (p ∷ ps) = length_puts (set l p.0 p.1) ps ∙ length-set l p.0 p.1

pub puts_append : (l : List ℕ) (ps qs : List (ℕ × ℕ)) → puts l (ps ++ qs) ≡ puts (puts l ps) qs
puts_append l [] qs = refl
puts_append l (p ∷ ps) qs = puts_append (set l p.0 p.1) ps qs

-- a place that is none of theirs is as it was, and may be stored first or last
pub puts_other : (l : List ℕ) (ps : List (ℕ × ℕ)) (k : ℕ) → Free k ps → get_or (puts l ps) k 0 ≡ get_or l k 0
puts_other l [] k f = refl
puts_other l (p ∷ ps) k f = puts_other (set l p.0 p.1) ps k f.1 ∙ get_or-set_other l p.0 k p.1 0 f.0

pub puts_set : (l : List ℕ) (ps : List (ℕ × ℕ)) (k v : ℕ) → Free k ps → puts (set l k v) ps ≡ set (puts l ps) k v
puts_set l [] k v f = refl
puts_set l (p ∷ ps) k v f = ap (λ (m : List ℕ). puts m ps) (set_comm l k p.0 v p.1 f.0) ∙ puts_set (set l p.0 p.1) ps k v f.1

-- the i-th pair's place has its number
pub puts_at : (l : List ℕ) (ps : List (ℕ × ℕ)) (i : ℕ) (d : ℕ × ℕ) → Apart ps → i < length ps → (get_or ps i d).0 < length l
    → get_or (puts l ps) (get_or ps i d).0 0 ≡ (get_or ps i d).1
puts_at l [] i d a h f = absurd (not-suc-le-zero h)
puts_at l (p ∷ ps) zero d a h f = puts_other (set l p.0 p.1) ps p.0 a.0 ∙ get_or-set_same l p.0 p.1 0 f
puts_at l (p ∷ ps) (suc i) d a h f = puts_at (set l p.0 p.1) ps i d a.1 (omega arith) (rw length-set f)

-- another order of the pairs
place : {p q : ℕ × ℕ} → p ≡ q → p.0 ≡ q.0
place = ap (λ (r : ℕ × ℕ). r.0)

pub free_order : {ps qs : List (ℕ × ℕ)} (k : ℕ) → Permᴰ ps qs → Free k ps → Free k qs
free_order k Permᴰ.nil f = f
free_order k (Permᴰ.cons e d) f = ((λ h. f.0 (h ∙ place (sym e))), free_order k d f.1)
free_order k (Permᴰ.swap e₁ e₂) f = ((λ h. f.1.0 (h ∙ place (sym e₂))), ((λ h. f.0 (h ∙ place (sym e₁))), f.1.1))
free_order k (Permᴰ.trans d₁ d₂) f = free_order k d₂ (free_order k d₁ f)

pub apart_order : {ps qs : List (ℕ × ℕ)} → Permᴰ ps qs → Apart ps → Apart qs
apart_order Permᴰ.nil a = a
apart_order (Permᴰ.cons {l₂ = l₂} e d) a = (subst (λ (r : ℕ × ℕ). Free r.0 l₂) e (free_order _ d a.0), apart_order d a.1)
apart_order (Permᴰ.swap {l = l} e₁ e₂) a = (
  ((λ h. a.0.0 (place e₁ ∙ sym h ∙ place (sym e₂))), subst (λ (r : ℕ × ℕ). Free r.0 l) e₂ a.1.0),
  (subst (λ (r : ℕ × ℕ). Free r.0 l) e₁ a.0.1, a.1.1),
)
apart_order (Permᴰ.trans d₁ d₂) a = apart_order d₂ (apart_order d₁ a)

pub puts_order : {ps qs : List (ℕ × ℕ)} (l : List ℕ) → Permᴰ ps qs → Apart ps → puts l ps ≡ puts l qs
puts_order l Permᴰ.nil a = refl
puts_order l (Permᴰ.cons {b = b} {l₁ = l₁} e d) a =
    ap (λ (r : ℕ × ℕ). puts (set l r.0 r.1) l₁) e ∙ puts_order (set l b.0 b.1) d a.1
puts_order l (Permᴰ.swap {a = x} {b = y} {a' = z} {l = t} e₁ e₂) a =
    ap (λ (m : List ℕ). puts m t) (set_comm l x.0 y.0 x.1 y.1 a.0.0)
    ∙ ap (λ (r : ℕ × ℕ). puts (set (set l r.0 r.1) x.0 x.1) t) e₂
    ∙ ap (λ (r : ℕ × ℕ). puts (set (set l z.0 z.1) r.0 r.1) t) e₁
puts_order l (Permᴰ.trans d₁ d₂) a = puts_order l d₁ a ∙ puts_order l d₂ (apart_order d₁ a)
