-- What the entries say. Assumes nothing.
use Rattle.std.specs.Prelude.{ℕ, ◌/◌, ◌%◌, ◌^◌, cond, not, ◌||◌, List, [], ◌∷◌, ℤ, int_lt, nat_lt, slice_index, unsigned_abs, Result}
use Rattle.std.specs.Int.{w64}
use Rattle.std.proofs.Common.{to_z, of_z}
use Rattle.arm.specs.Displacements.{B, Bcond, TBZ, ADR, ADRP, LDR}
use Rattle.words.specs.Said.{Said, ok, no}
use Rattle.words.specs.Answer.{said_as}
use Rattle.forms.specs.Form.{is_of_form}
use Rattle.displacements.specs.Forms.{Form, form_of, field_in, put_in, step, least, greatest}
use Rattle.words.specs.declared.Refusal.{Refusal}
use Rattle.words.specs.declared.ByteDistance.{ByteDistance}

-- ---- writing: order 7, 11, 6, 4, 5

-- the number in the field: the distance's steps, modulo the field's values (of_z w64 d is d modulo 2 ^ 64)
abbrev pub steps_of : Form → ℤ → ℕ
steps_of f d = of_z w64 d / step f % 2 ^ f.bits

-- at a format: "base word already has a bit set in the field", "not a multiple of the format's step", "outside the format's range", or the word
unfoldable pub place_said : Form → ℕ → ℤ → Said (List ℕ)
place_said f b d =
    cond (nat_lt 0 (field_in f b)) (no 6)
    (cond (nat_lt 0 (unsigned_abs d % step f)) (no 4)
    (cond (int_lt d (least f) || int_lt (greatest f) d) (no 5)
    (ok (put_in f b (steps_of f d) ∷ []))))

-- the distance d into the base word b at format n
abbrev pub disp_said : ℕ → ℕ → ℤ → Said (List ℕ)
disp_said n b d =
    cond (nat_lt 5 n) (no 7)
    (cond (not (is_of_form n b)) (no 11)
    (place_said (form_of n) b d))

-- ---- reading

-- Arm's reading of the six forms, by document 01's numbers
abbrev pub offset : ℕ → ℕ → ℕ
offset n w = slice_index (B w ∷ Bcond w ∷ TBZ w ∷ ADR w ∷ ADRP w ∷ LDR w ∷ []) n

-- "any word and format (refusal 7)", "the signed distance"
abbrev pub read_said : ℕ → ℕ → Said ℤ
read_said w n = cond (nat_lt 5 n) (no 7) (ok (to_z w64 (offset n w)))

-- the reader's answer says a distance
abbrev pub distance_said : Result ByteDistance Refusal → Said ℤ
distance_said = said_as (λ d. d.0)
