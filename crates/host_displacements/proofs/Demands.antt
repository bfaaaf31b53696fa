-- What a host reads from the answers of the entries on displacements, over the definitions that their contracts cite. Assumes nothing.
use mathlib.Core.Path.{◌≡◌, refl, subst⁻¹}
use mathlib.Core.Bool.{Bool, true, false, cond}
use Prim.Native.Nat.{ℕ, ◌+◌, ◌*◌, ◌^◌, ◌≤◌, ◌<◌}
use native.Mathlib.Nat.{lt_of_lt_of_le}
use native.Mathlib.Omega.{arith}
use borrow.Author.Tests.{ltb-false}
use lib.Dec.{ltb}
use lib.IntN.{ℤ}
use lib.Pow.{pow_mono}
use lib.Signed.{mag}
use mir.Syntax.{w64}
use mir.Val.{to_z}
use Rattle.words.specs.Said.{ok, no}
use Rattle.words.specs.declared.Refusal.TheVariants.{Unknown}
use Rattle.forms.specs.Form.{is_of_form, form_said}
use Rattle.forms.proofs.Formats.{each}
use Rattle.displacements.specs.Answer.{disp_said, read_said, offset}
use Rattle.displacements.specs.Forms.{form_of, field_in, step}
use Rattle.displacements.proofs.Answers.{alone, numbered}
use Rattle.displacements.proofs.Laws.{sound, arm_reads, offset_lt}
use Rattle.host.specs.Number.{told, Reads, yes_no}
use Rattle.host.proofs.Reading.{Small, told_reads, extended_mag}
use Rattle.host.proofs.Demands.{Sane, one_sane}

pub displacement_sane : (n b : ℕ) (d : ℤ) → Sane (disp_said n b d)
displacement_sane n b d = one_sane (disp_said n b d) (alone n b d) (numbered n b d)

pub form_read : (n w r : ℕ) → r ≡ told (yes_no (form_said n w)) → Reads r (yes_no (form_said n w))
form_read n w r e = subst⁻¹ (λ (k : ℕ). Reads k (yes_no (form_said n w))) e (told_reads (yes_no (form_said n w)) (go (ltb 5 n) (is_of_form n w)))
  where
    go : (b v : Bool) → Small (yes_no (cond b (no 7) (ok v)))
    go true v = (Unknown, refl)
    go false true = omega arith
    go false false = omega arith

pub distance_read : (w n r : ℕ) → r ≡ told (read_said w n) → Reads r (read_said w n)
distance_read w n r e = subst⁻¹ (λ (k : ℕ). Reads k (read_said w n)) e (told_reads (read_said w n) (go (ltb 5 n) refl))
  where
    narrow : (n : ℕ) → n < 6 → (form_of n).bits + (form_of n).scale ≤ 33
    narrow = each (λ n. (form_of n).bits + (form_of n).scale ≤ 33) (omega arith) (omega arith) (omega arith) (omega arith) (omega arith) (omega arith)

    near : n < 6 → mag (to_z w64 (offset n w)) < 2 ^ 55
    near h =
        let f = form_of n in
        let s = sound n h in
        let t = narrow n h in
        rw (← arm_reads w n h)
        (lt_of_lt_of_le (extended_mag (f.bits + f.scale) (field_in f w * step f) (omega (arith, s.some)) (omega arith) (offset_lt f s w)) (pow_mono {j = 55} (omega arith)))

    go : (b : Bool) → ltb 5 n ≡ b → Small (cond b (no 7) (ok (to_z w64 (offset n w))))
    go true q = (Unknown, refl)
    go false q = near (omega (arith, ltb-false 5 n q))
