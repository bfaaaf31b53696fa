-- The one number is read as what was said, where the value has 56 bits and the refusal's number is one of a byte's. Assumes nothing.
use mathlib.Core.Path.{◌≡◌, refl, ap, ◌∙◌}
use mathlib.Core.Bool.{Bool, true, false, cond}
use Prim.Native.Nat.{ℕ, suc, ◌+◌, ◌-◌, ◌*◌, ◌/◌, ◌%◌, ◌^◌, ◌≤◌, ◌<◌}
use native.Mathlib.Omega.{arith}
use borrow.Author.Tests.{ltb-true, ltb-false}
use lib.Dec.{ltb}
use lib.IntN.{ℤ, pos}
use lib.Pow.{pow_mono}
use lib.Signed.{mag}
use mir.Facts.{to_z-of_z, to_z_pos, to_z-neg}
use mir.Syntax.{w64}
use mir.Val.{to_z, of_z}
use Rattle.arm.specs.Bits.{SignExtend}
use Rattle.arm.proofs.SignExtends.{double, extend}
use Rattle.words.specs.Said.{Said, ok, no}
use Rattle.words.specs.Answer.{IsNumber}
use Rattle.words.proofs.Answers.{number_fits}
use Rattle.host.specs.Number.{told, Reads, count_in, low_in}

abbrev pub Small : Said ℤ → Type 0
Small (ok v) = mag v < 2 ^ 55
Small (no n) = IsNumber n

pub told_reads : (a : Said ℤ) → Small a → Reads (told a) a
told_reads (ok v) h =
    let up : of_z w64 v * 2 ^ 8 % 2 ^ 64 / 2 ^ 8 ≡ of_z w64 v % 2 ^ 56 = omega arith in
    (omega arith, ap (λ (x : ℕ). to_z w64 (SignExtend 56 x)) up ∙ ap (to_z w64) (extend 56 (omega arith) (omega arith) v h) ∙ to_z-of_z {w = w64} (record { sfits = omega arith }))
told_reads (no n) h =
    let small = (number_fits h).1 in
    let none : n / 2 ^ 8 ≡ 0 = omega arith in
    (h, omega arith, ap (λ (x : ℕ). to_z w64 (SignExtend 56 x)) none)

-- a count of words and low bits are read apart
pub told_parts : (n c l : ℕ) → n ≡ told (ok (pos (c + l * 2 ^ 8))) → c ≤ 4 → l < 4096 → (count_in n ≡ c) × (low_in n ≡ l)
told_parts n c l e h f =
    let whole : n ≡ c * 256 + l * 65536 = omega (arith, e) in
    let above : n / 256 ≡ c + l * 256 = omega (arith, whole) in
    let top : n / 65536 ≡ l = omega (arith, whole) in
    (rw above (omega arith), rw top (omega arith))

-- a number of t bits, sign-extended, is read as one from - 2 ^ (t - 1) up to below 2 ^ (t - 1)
pub extended_mag : (t v : ℕ) → 1 ≤ t → t ≤ 64 → v < 2 ^ t → mag (to_z w64 (SignExtend t v)) < 2 ^ (t - 1)
extended_mag t v lo hi h = go (ltb v (2 ^ (t - 1))) refl
  where
    go : (b : Bool) → ltb v (2 ^ (t - 1)) ≡ b → mag (to_z w64 (cond b v (v + (2 ^ 64 - 2 ^ t)))) < 2 ^ (t - 1)
    go true e =
        let low = ltb-true v (2 ^ (t - 1)) e in
        let half : 2 ^ (t - 1) ≤ 2 ^ 63 = pow_mono {j = 63} (omega arith) in
        rw (to_z_pos w64 {n = v} (omega arith)) low
    go false e =
        let high = ltb-false v (2 ^ (t - 1)) e in
        let two = double t lo in
        let half : 2 ^ (t - 1) ≤ 2 ^ 63 = pow_mono {j = 63} (omega arith) in
        let whole : v + (2 ^ 64 - 2 ^ t) ≡ 2 ^ 64 - suc (2 ^ t - suc v) = omega arith in
        rw (whole, to_z-neg w64 (2 ^ t - suc v) (omega arith)) (omega arith)
