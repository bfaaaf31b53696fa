-- Which words are instructions of a displacement format, by document 01's numbers. Assumes nothing.
use Rattle.std.specs.Prelude.{◌≡◌, Bool, true, false, cond, ◌||◌, [], ◌∷◌, ℕ, ltb, get_or}
use Rattle.arm.specs.FixedBits.{is_b, is_bcond, is_cbz, is_tbz, is_adr, is_adrp, is_ldr}
use Rattle.words.specs.Said.{Said, ok, no}

-- "the fixed bits of an instruction of that form (B and BL; B.cond, CBZ and CBNZ; TBZ and TBNZ; ADR; ADRP; LDR, LDRSW and PRFM literal, including
-- the SIMD ones)"
unfoldable pub is_of_form : ℕ → ℕ → Bool
is_of_form n w = get_or (is_b w ∷ (is_bcond w || is_cbz w) ∷ is_tbz w ∷ is_adr w ∷ is_adrp w ∷ is_ldr w ∷ []) n false

-- the word w is an instruction of format n
abbrev pub Formed : ℕ → ℕ → Type 0
Formed n w = is_of_form n w ≡ true

-- whether it is, or refusal 7
abbrev pub form_said : ℕ → ℕ → Said Bool
form_said n w = cond (ltb 5 n) (no 7) (ok (is_of_form n w))
