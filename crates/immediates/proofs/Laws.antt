-- An expansion f that can be read back by g is met by one 8-bit value at most, and what g reads settles whether by any. Assumes nothing.
use mathlib.Core.Path.{◌≡◌, refl, sym, ap, ◌∙◌, subst}
use mathlib.Core.Bool.{Bool, true, false, cond}
use Prim.Native.Nat.{ℕ, ◌+◌, ◌-◌, ◌≤◌, ◌<◌}
use native.Mathlib.Omega.{arith}
use borrow.Author.Tests.{eqb-true, eqb-false}
use lib.Dec.{eqb}
use Rattle.arm.specs.Immediates.{VFPExpand, VFPExpandImm, ByteMask}
use Rattle.arm.specs.Imm8.{read_float, read_mask, float_sum, mask_sum}
use Rattle.arm.proofs.Expand.{float_back, float_is, read_below, read_few, mask_back, mask_sum_lem}
use Rattle.words.specs.Said.{Said, ok, no}
use Rattle.immediates.specs.Says.{Spells, MaskSays, Tests}
use Rattle.words.specs.Answer.{said}
use Rattle.words.specs.declared.Refusal.{Refusal}
use Rattle.std.specs.Prelude.{Result, Ok, Err}
use Rattle.std.specs.Result.{is_ok}
use Rattle.immediates.specs.Steps.{settled}

module _ (f g : ℕ → ℕ) (back : (b : ℕ) → b < 256 → g (f b) ≡ b) where
  pub at_most_one : {b c : ℕ} → b < 256 → c < 256 → f b ≡ f c → b ≡ c
  at_most_one {b} {c} hb hc e = sym (back b hb) ∙ ap g e ∙ back c hc

  none : (x : ℕ) → (f (g x) ≡ x → ⊥) → (b : ℕ) → b < 256 → f b ≡ x → ⊥
  none x h b lt e = h (ap f (sym (ap g e) ∙ back b lt) ∙ e)

  settles : (x : ℕ) → g x < 256 → Spells f x (settled (g x) (f (g x)) x)
  unfolding Spells
  settles x h = by (eqb (f (g x)) x) refl
    where
      by : (t : Bool) → eqb (f (g x)) x ≡ t → Spells f x (cond t (ok (g x)) (no 3))
      by true e = (h, eqb-true (f (g x)) x e)
      by false e = (refl, none x (eqb-false (f (g x)) x e))

  pub one_said : (x : ℕ) (a a' : Said ℕ) → Spells f x a → Spells f x a' → a ≡ a'
  unfolding Spells
  one_said x (ok b) (ok c) s t = ap ok (at_most_one s.0 t.0 (s.1 ∙ sym t.1))
  one_said x (ok b) (no n) s t = absurd (t.1 b s.0 s.1)
  one_said x (no m) (ok c) s t = absurd (s.1 c t.0 t.1)
  one_said x (no m) (no n) s t = ap no (s.0 ∙ sym t.0)

-- whether there is an answer
pub tested : (f : ℕ → ℕ) (x : ℕ) (a : Result ℕ Refusal) → Spells f x (said a) → Tests f x (is_ok a)
unfolding Spells Tests
tested f x (Ok b) s = (b, s.0, s.1)
tested f x (Err n) s = s.1

-- what the code of the encoders computes: the 8 bits that are read, expanded by their weights
module _
    (f g h : ℕ → ℕ)
    (back : (b : ℕ) → b < 256 → g (f b) ≡ b)
    (sum : (b : ℕ) → b < 256 → h b ≡ f b)
    (below : (x : ℕ) → g x < 256)
  where
    settles_by : (x : ℕ) → Spells f x (settled (g x) (h (g x)) x)
    settles_by x = rw (sum (g x) (below x)) (settles f g back x (below x))

-- a float of E exponent and F fraction bits, whatever they are
module _ {E F : ℕ} (e_low : 4 ≤ E) (f_low : 4 ≤ F) where
  of_parts : (P : ℕ → ℕ → Type 0) → P (E - 4 + 4) (F - 4 + 4) → P E F
  of_parts P t =
      let e : E - 4 + 4 ≡ E = omega arith in
      let f : F - 4 + 4 ≡ F = omega arith in
      subst (λ (n : ℕ). P n F) e (subst (λ (n : ℕ). P (E - 4 + 4) n) f t)

  pub fp : (x : ℕ) → Spells (VFPExpand E F) x (settled (read_float E F x) (float_sum (E - 4) (F - 4) (read_float E F x)) x)
  fp =
      settles_by (VFPExpand E F) (read_float E F) (float_sum (E - 4) (F - 4))
      (of_parts (λ n m. (b : ℕ) → b < 256 → read_float n m (VFPExpand n m b) ≡ b) (float_back (E - 4) (F - 4)))
      (λ b h. sym (of_parts (λ n m. VFPExpand n m b ≡ float_sum (E - 4) (F - 4) b) (float_is (E - 4) (F - 4) b h)))
      (read_below E F)

-- at 16, 32 and 64
pub fp16 : (x : ℕ) → Spells (VFPExpandImm 16) x (settled (read_float 5 10 x) (float_sum 1 6 (read_float 5 10 x)) x)
unfolding VFPExpandImm
fp16 = fp {E = 5} {F = 10} (omega arith) (omega arith)

pub fp32 : (x : ℕ) → Spells (VFPExpandImm 32) x (settled (read_float 8 23 x) (float_sum 4 19 (read_float 8 23 x)) x)
unfolding VFPExpandImm
fp32 = fp {E = 8} {F = 23} (omega arith) (omega arith)

pub fp64 : (x : ℕ) → Spells (VFPExpandImm 64) x (settled (read_float 11 52 x) (float_sum 7 48 (read_float 11 52 x)) x)
unfolding VFPExpandImm
fp64 = fp {E = 11} {F = 52} (omega arith) (omega arith)

pub mask : (x : ℕ) → MaskSays x (settled (read_mask 8 x) (mask_sum 8 (read_mask 8 x)) x)
mask = settles_by ByteMask (read_mask 8) (mask_sum 8) (mask_back 8) (λ b h. mask_sum_lem 8 b) (read_few 8)
