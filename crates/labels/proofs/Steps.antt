-- A label's distance is a multiple of the step, since word and label stand at one base: 4 is never given for a use. Assumes nothing.
use mathlib.Core.Path.{◌≡◌, refl, subst}
use mathlib.Core.Bool.{Bool, true, false}
use mathlib.Core.List.{List}
use Prim.Native.Nat.{ℕ, zero, suc, ◌+◌, ◌-◌, ◌%◌, ◌^◌, ◌<◌}
use native.Mathlib.Nat.{mod-lt, mod-one}
use native.Mathlib.Omega.{arith}
use borrow.Author.Tests.{eqb-true, eqb-false}
use lib.Dec.{eqb}
use lib.IntN.{nat_abs}
use lib.Pow.{pow_pos}
use mir.Syntax.{w64}
use mir.Facts.{sfits_to_z}
use Rattle.words.specs.Said.{no}
use Rattle.words.specs.Place.{place_at, base_of, address_of, Aligned}
use Rattle.words.specs.declared.Place.{Place}
use Rattle.displacements.specs.Forms.{form_of}
use Rattle.displacements.specs.Says.{OnStep}
use Rattle.displacements.proofs.Distances.{bits_steps}
use Rattle.disp_targets.specs.Target.{between, target_said}
use Rattle.disp_targets.proofs.Demands.{bits_between}
use Rattle.disp_targets.proofs.Pages.{never_4, other_4}
use Rattle.labels.specs.declared.Use.{Use}
use Rattle.labels.specs.Sheet.{target, made_from}

module _ (t a : ℕ) (et : t % 4 ≡ 0) (ea : a % 4 ≡ 0) where
  fours : nat_abs (between t a) % 4 ≡ 0
  fours = bits_steps 2 (omega arith) (between t a) (sfits_to_z {w = w64} {n = (t + (2 ^ 64 - a)) % 2 ^ 64} (record { fits = mod-lt (t + (2 ^ 64 - a)) (pow_pos 64) })) (rw (bits_between t a) (omega arith))

  -- formats 0, 1, 2 and 5 go by 4 bytes, format 3 by one
  on_step : (n : ℕ) → n < 6 → (n ≡ 4 → ⊥) → OnStep (form_of n) (between t a)
  on_step zero h o = fours
  on_step (suc zero) h o = fours
  on_step (suc (suc zero)) h o = fours
  on_step (suc (suc (suc zero))) h o = mod-one (nat_abs (between t a))
  on_step (suc (suc (suc (suc zero)))) h o = absurd (o refl)
  on_step (suc (suc (suc (suc (suc zero))))) h o = fours
  on_step (suc (suc (suc (suc (suc (suc n)))))) h o = absurd (omega arith)

-- of a use, bound or not, over any base word
pub made_never_4 : (at : Place) (ls : List ℕ) (u : Use) (b : ℕ) → Aligned at → made_from at ls u b ≡ no 4 → ⊥
unfolding made_from
made_never_4 at ls u b h e = go u.format (eqb u.format 4) refl e
  where
    t : ℕ
    t = address_of (place_at (base_of at) (target ls u))

    a : ℕ
    a = address_of (place_at (base_of at) u.at)

    go : (n : ℕ) (c : Bool) → eqb n 4 ≡ c → target_said n b t a ≡ no 4 → ⊥
    go n true f e = never_4 b t a (subst (λ (k : ℕ). target_said k b t a ≡ no 4) (eqb-true n 4 f) e)
    go n false f e =
        let o = eqb-false n 4 f in
        let w = (other_4 n b t a o).0 e in
        w.2 (on_step t a (omega arith) (omega arith) n w.0.at o)
