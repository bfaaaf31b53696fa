-- The words that bytes spell, by their bytes. Assumes nothing.
use Rattle.std.proofs.Common.{◌≡◌, ℕ, zero, suc, ◌+◌, ◌*◌, ◌^◌, ◌/◌, ◌<◌, ◌≤◌, List, [], ◌∷◌, length, get_or, refl, arith}
use Rattle.std.specs.Simd.{first_chunks}
use Rattle.writers.specs.Put.{words_in}

-- "a tail under four is no room"
pub words_count : (bs : List ℕ) → length (words_in bs) ≡ length bs / 4
words_count [] = refl
words_count (a ∷ []) = refl
words_count (a ∷ b ∷ []) = refl
words_count (a ∷ b ∷ c ∷ []) = refl
words_count (a ∷ b ∷ c ∷ d ∷ bs) = let e = words_count bs in omega arith

-- four bytes as a word, the low one first
abbrev pub four : List ℕ → ℕ
four w = get_or w 0 0 + get_or w 1 0 * 2 ^ 8 + get_or w 2 0 * 2 ^ 16 + get_or w 3 0 * 2 ^ 24

pub word_bytes : (bs e : List ℕ) (n p : ℕ) → p < n → n ≤ length bs / 4 → four (get_or (first_chunks 4 n bs) p e) ≡ get_or (words_in bs) p 0
word_bytes bs e zero p h r = absurd (omega arith)
word_bytes [] e (suc n) p h r = absurd (omega arith)
word_bytes (a ∷ []) e (suc n) p h r = absurd (omega arith)
word_bytes (a ∷ b ∷ []) e (suc n) p h r = absurd (omega arith)
word_bytes (a ∷ b ∷ c ∷ []) e (suc n) p h r = absurd (omega arith)
word_bytes (a ∷ b ∷ c ∷ d ∷ bs) e (suc n) zero h r = refl
word_bytes (a ∷ b ∷ c ∷ d ∷ bs) e (suc n) (suc p) h r = word_bytes bs e n p (omega arith) (omega arith)
