-- A displacement, read from any word of its form and written again on the word's own base, is the word. Assumes nothing.
use mathlib.Core.Path.{◌≡◌, refl, sym, ap, ◌∙◌}
use mathlib.Core.Bool.{Bool, true, false, cond}
use mathlib.Core.List.{[], ◌∷◌}
use Prim.Native.Nat.{ℕ, suc, ◌+◌, ◌-◌, ◌*◌, ◌/◌, ◌%◌, ◌^◌, ◌≤◌, ◌<◌}
use native.Mathlib.Omega.{arith}
use borrow.Author.Tests.{ltb-true, ltb-false}
use lib.Dec.{ltb}
use lib.Pow.{pow_mono}
use lib.Signed.{mag}
use mir.Facts.{of_z-to_z, to_z_pos, to_z-neg, sfits_to_z}
use mir.Syntax.{w64}
use mir.Val.{Fits, to_z, of_z}
use Rattle.arm.specs.Bits.{SignExtend}
use Rattle.arm.proofs.SignExtends.{double}
use Rattle.words.specs.Said.{ok}
use Rattle.forms.specs.Form.{Formed}
use Rattle.forms.proofs.Formats.{each}
use Rattle.displacements.specs.Forms.{form_of, field_in, put_in, clear_in, step}
use Rattle.displacements.specs.Answer.{steps_of, offset, disp_said}
use Rattle.displacements.specs.Private.{offset_in}
use Rattle.displacements.specs.Says.{word}
use Rattle.displacements.proofs.Laws.{sound, arm_reads, field_lt, offset_lt}
use Rattle.displacements.proofs.Cleared.{clear_free, put_back, clear_form}
use Rattle.displacements.proofs.Distances.{bits_steps}
use Rattle.displacements.proofs.Answers.{answers, range_near, in_range}

-- sign extension keeps a number in reach
extend_near : (m v : ℕ) → 1 ≤ m → m < 63 → v < 2 ^ m → (mag (to_z w64 (SignExtend m v)) < 2 ^ (m - 1)) × (SignExtend m v < 2 ^ 64)
extend_near m v lo hi l = go (ltb v (2 ^ (m - 1))) refl
  where
    two : 2 ^ m ≡ 2 ^ (m - 1) * 2
    two = double m lo

    half : 2 ^ (m - 1) ≤ 2 ^ 62
    half = pow_mono {j = 62} (omega arith)

    go : (b : Bool) → ltb v (2 ^ (m - 1)) ≡ b → (mag (to_z w64 (cond b v (v + (2 ^ 64 - 2 ^ m)))) < 2 ^ (m - 1)) × (cond b v (v + (2 ^ 64 - 2 ^ m)) < 2 ^ 64)
    go true e = let s : v < 2 ^ (m - 1) = ltb-true _ _ e in (rw (to_z_pos w64 {n = v} (omega (arith, half))) s, omega (arith, half))
    go false e =
        let s : 2 ^ (m - 1) ≤ v = ltb-false _ _ e in
        let x : v + (2 ^ 64 - 2 ^ m) ≡ 2 ^ 64 - suc (2 ^ m - suc v) = omega (arith, half, two) in
        rw (x, to_z-neg w64 (2 ^ m - suc v) (omega (arith, half, two))) (omega (arith, two), omega (arith, half, two))

pick : (P : Bool → Type 0) → P true → P false → (b : Bool) → P b
pick P t f true = t
pick P t f false = f

-- the steps of what is read are the field, and it is on the step
abbrev Steps : ℕ → ℕ → Bool → Type 0
Steps n v b = let f = form_of n in let x = cond b (v * step f) (v * step f + (2 ^ 64 - 2 ^ (f.bits + f.scale))) in (x / step f % 2 ^ f.bits ≡ v) × (x % step f ≡ 0)

steps_at : (n : ℕ) → n < 6 → (v : ℕ) → v < 2 ^ (form_of n).bits → (b : Bool) → Steps n v b
steps_at =
    each (λ n. (v : ℕ) → v < 2 ^ (form_of n).bits → (b : Bool) → Steps n v b)
    (λ v l. pick (Steps 0 v) (omega arith) (omega arith))
    (λ v l. pick (Steps 1 v) (omega arith) (omega arith))
    (λ v l. pick (Steps 2 v) (omega arith) (omega arith))
    (λ v l. pick (Steps 3 v) (omega arith) (omega arith))
    (λ v l. pick (Steps 4 v) (omega arith) (omega arith))
    (λ v l. pick (Steps 5 v) (omega arith) (omega arith))

pub displaced_again : (w n : ℕ) → n < 6 → Formed n w → disp_said n (clear_in (form_of n) w) (to_z w64 (offset n w)) ≡ ok (w ∷ [])
displaced_again w n h formed =
    let f = form_of n in
    let s = sound n h in
    let v = field_in f w in
    let d = to_z w64 (offset n w) in
    let is : offset n w ≡ offset_in f w = sym (arm_reads w n h) in
    let near = extend_near (f.bits + f.scale) (v * step f) (omega (arith, s.some)) s.narrow (offset_lt f s w) in
    let fits : Fits w64 (offset n w) = record { fits = rw is near.1 } in
    let back : of_z w64 d ≡ offset n w = of_z-to_z {w = w64} fits in
    let st = steps_at n h v (field_lt f s w) (ltb (v * step f) (2 ^ (f.bits + f.scale - 1))) in
    let on = bits_steps f.scale (omega (arith, s.narrow)) d (sfits_to_z {w = w64} fits) (rw (back, is) st.1) in
    let range = in_range f d (range_near f s d on (rw is near.0)) in
    let steps : steps_of f d ≡ v = rw (back, is) st.0 in
    answers n (clear_in f w) d (word (record { at = h; form = clear_form n h w ∙ formed }) (clear_free f s w) on range)
    ∙ ap (λ (k : ℕ). ok (k ∷ [])) (ap (put_in f (clear_in f w)) steps ∙ put_back f s w)
