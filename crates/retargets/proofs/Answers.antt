-- What is said of a word already written, by what stands there. Assumes nothing.
use mathlib.Core.Path.{◌≡◌, refl, sym, subst}
use mathlib.Core.Bool.{Bool, true, false, cond}
use mathlib.Core.List.{List}
use Prim.Native.Nat.{ℕ, ◌<◌, ◌≤◌}
use borrow.Author.Tests.{lt-ltb, le-ltb, ltb-true, ltb-false}
use lib.Dec.{ltb}
use lib.IntN.{ℤ}
use lib.ListN.{length, get_or}
use Rattle.words.specs.Said.{Said, ok, no}
use Rattle.words.proofs.Answers.{Alone, Short, alone_short, not_both}
use Rattle.displacements.specs.Forms.{form_of, clear_in}
use Rattle.displacements.specs.Answer.{disp_said}
use Rattle.displacements.proofs.Answers.{alone}
use Rattle.retargets.specs.Retarget.{word_at, cleared, base_in, again_said}

module _ (n : ℕ) (d : ℤ) where
  pub again_7 : (x : Said ℕ) → 5 < n → again_said n x d ≡ no 7
  unfolding again_said
  again_7 x h = simp (lt-ltb 5 n h)

  pub again_there : (w : ℕ) → n ≤ 5 → again_said n (ok w) d ≡ disp_said n (clear_in (form_of n) w) d
  unfolding again_said
  again_there w h = simp (le-ltb 5 n h)

  pub again_missing : (k : ℕ) → n ≤ 5 → again_said n (no k) d ≡ no k
  unfolding again_said
  again_missing k h = simp (le-ltb 5 n h)

-- over the base that is made of what stands there
module _ (n : ℕ) (d : ℤ) where
  pub over_base : (x : Said ℕ) (w : ℕ) → ok w ≡ base_in n x → disp_said n w d ≡ again_said n x d
  over_base x w = go x (ltb 5 n) refl
    where
      go : (x : Said ℕ) (b : Bool) → ltb 5 n ≡ b → ok w ≡ cond b (no 7) (cleared n x) → disp_said n w d ≡ again_said n x d
      go x true e h = absurd (not_both h)
      go (ok v) false e h = let same : w ≡ clear_in (form_of n) v = cc in rw same (sym (again_there n d v (ltb-false 5 n e)))
      go (no k) false e h = absurd (not_both h)

  pub no_base : (x : Said ℕ) (k : ℕ) → no k ≡ base_in n x → no k ≡ again_said n x d
  no_base x k = go x (ltb 5 n) refl
    where
      go : (x : Said ℕ) (b : Bool) → ltb 5 n ≡ b → no k ≡ cond b (no 7) (cleared n x) → no k ≡ again_said n x d
      go x true e h = let same : k ≡ 7 = cc in rw same (sym (again_7 n d x (ltb-true 5 n e)))
      go (ok v) false e h = absurd (not_both (sym h))
      go (no l) false e h = let same : k ≡ l = cc in rw same (sym (again_missing n d l (ltb-false 5 n e)))

module _ (ws : List ℕ) (p : ℕ) where
  pub word_there : p < length ws → word_at ws p ≡ ok (get_or ws p 0)
  word_there h = simp (lt-ltb p (length ws) h)

  pub word_missing : length ws ≤ p → word_at ws p ≡ no 8
  word_missing h = simp (le-ltb p (length ws) h)

-- one word, or a refusal's number
pub again_alone : (n : ℕ) (x : Said ℕ) (d : ℤ) → Alone (again_said n x d)
again_alone n x d = go x (ltb 5 n) refl
  where
    go : (x : Said ℕ) (b : Bool) → ltb 5 n ≡ b → Alone (again_said n x d)
    go x true e = subst Alone (sym (again_7 n d x (ltb-true 5 n e))) tt
    go (ok w) false e = subst Alone (sym (again_there n d w (ltb-false 5 n e))) (alone n (clear_in (form_of n) w) d)
    go (no k) false e = subst Alone (sym (again_missing n d k (ltb-false 5 n e))) tt

pub again_short : (n : ℕ) (x : Said ℕ) (d : ℤ) → Short (again_said n x d)
again_short n x d = alone_short (again_said n x d) (again_alone n x d)
