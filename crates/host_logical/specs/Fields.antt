-- The numbers and words that the entries on logical immediates answer, and how they are read. Assumes nothing.
use Rattle.std.specs.Prelude.{List, [], ◌∷◌, ℕ, ◌+◌, ◌*◌, ◌/◌, ◌%◌, ◌^◌, ℤ, pos, get_or}
use Rattle.words.specs.Said.{Said, ok, no}
use Rattle.logical.specs.Answer.{Encoded}
use Rattle.logical.specs.declared.LogicalImm.{LogicalImm}
use Rattle.logical_decoder.specs.Answer.{Decoded, Normal}
use Rattle.host.specs.Number.{words_from}

-- of fields: length * 16777216 + N * 65536 + S * 256 + R
abbrev pub spelled : Said LogicalImm → Said ℤ
spelled (ok f) = ok (pos (f.length * 2 ^ 24 + f.n * 2 ^ 16 + f.s * 2 ^ 8 + f.r))
spelled (no n) = no n

-- as a host reads them from an answer x without a refusal: R in byte 1, S in byte 2, N in byte 3, the length in byte 4
abbrev pub byte_in : ℕ → ℕ → ℕ
byte_in k x = x / 2 ^ (8 * k) % 2 ^ 8

abbrev pub fields_in : ℕ → LogicalImm
fields_in x = record { n = byte_in 3 x; s = byte_in 2 x; r = byte_in 1 x; length = byte_in 4 x }

-- P of what the encoder says of the low w bits of v (its promise allows one answer)
abbrev pub ForFields : (w v : ℕ) → (Said LogicalImm → Type 0) → Type 0
ForFields w v P = (a : Said LogicalImm) × Encoded w v a × P a

-- P of what the normaliser says of fields (its promise allows one answer)
abbrev pub ForNormal : (w n s r : ℕ) → (Said LogicalImm → Type 0) → Type 0
ForNormal w n s r P = (a : Said LogicalImm) × Normal w n s r a × P a

-- a mask of 64 bits as two words, the low one first
abbrev pub words_of_mask : Said ℕ → Said (List ℕ)
words_of_mask (ok m) = ok (m % 2 ^ 32 ∷ m / 2 ^ 32 ∷ [])
words_of_mask (no n) = no n

-- as a host reads it from the two words that the answer x says
abbrev pub mask_in : ℕ → List ℕ → ℕ
mask_in x bs = get_or (words_from x 0 bs) 0 0 + get_or (words_from x 0 bs) 1 0 * 2 ^ 32

-- P of what the decoder says of fields (its promise allows one answer)
abbrev pub ForMask : (w n s r : ℕ) → (Said ℕ → Type 0) → Type 0
ForMask w n s r P = (a : Said ℕ) × Decoded w n s r a × P a
