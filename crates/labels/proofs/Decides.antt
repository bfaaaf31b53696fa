-- What the functions that decide of one label and of one use need. Assumes nothing.
use mathlib.Core.Path.{◌≡◌, refl, ap, ◌∙◌}
use mathlib.Core.Logic.{◌⊎◌, inl, inr}
use mathlib.Core.Bool.{Bool, true, false, cond, not}
use mathlib.Core.List.{List, [], ◌∷◌}
use Prim.Native.Nat.{ℕ, ◌<◌}
use native.Mathlib.Nat.{eq-zero-or-pos}
use native.Mathlib.Omega.{arith}
use borrow.Author.Tests.{ltb-true, lt-ltb, le-ltb, ne_eqb}
use lib.Dec.{eqb, ltb}
use lib.IntN.{pos}
use lib.ListN.{length}
use Rattle.words.specs.Said.{Said, ok, no}
use Rattle.words.specs.Listed.{packed}
use Rattle.forms.specs.Form.{is_of_form}
use Rattle.displacements.specs.Forms.{form_of, field_in}
use Rattle.displacements.specs.Answer.{disp_said}
use Rattle.displacements.proofs.Demands.{asks_base}
use Rattle.labels.specs.Limits.{label_limit}
use Rattle.labels.specs.Order.{first}
use Rattle.labels.proofs.Tests.{both}
use Rattle.labels.specs.Sheet.{names_label, base_tests, number_in}

-- a label stands in the table
pub label_in : (ls : List ℕ) (l : ℕ) → names_label ls l ≡ true → l < length ls
unfolding names_label
label_in ls l h = ltb-true l (length ls) (both (ltb l label_limit) (ltb l (length ls)) h).1

-- at distance 0 module 7 tests the base word and nothing else
pub base_said : (n w : ℕ) → n < 6 → number_in (packed (disp_said n w (pos 0))) ≡ first (base_tests n w) 0
base_said n w h =
    ap (λ (x : Said (List ℕ)). number_in (packed x)) (asks_base n w)
    ∙ simp (le-ltb 5 n (omega arith)) (go (is_of_form n w) (field_in (form_of n) w) (eq-zero-or-pos (field_in (form_of n) w)))
  where
    go : (a : Bool) (v : ℕ) → (v ≡ 0) ⊎ (0 < v) → number_in (packed (cond (not a) (no 11) (cond (ltb 0 v) (no 6) (ok (w ∷ []))))) ≡ cond a (cond (eqb v 0) 0 6) 11
    go false v z = refl
    go true v (inl z) = simp z
    go true v (inr z) = simp (lt-ltb 0 v z, ne_eqb v 0 (λ e. omega arith))
