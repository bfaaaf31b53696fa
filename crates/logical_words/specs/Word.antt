-- The logical word of module 3. Assumes nothing.
use Rattle.std.specs.Prelude.{cond, not, ◌||◌, List, [], ◌∷◌, ℕ, ◌+◌, ◌*◌, ◌^◌, eqb, ltb, get_or}
use Rattle.words.specs.Said.{Said, ok, no}
use Rattle.logical.specs.Answer.{Encoded}
use Rattle.logical.specs.declared.LogicalImm.{LogicalImm}

-- "operation 0 AND, 1 ORR, 2 EOR, 3 ANDS, bases 12000000, 32000000, 52000000, 72000000 (hex)"
abbrev pub bases : List ℕ
bases = 0x12000000 ∷ 0x32000000 ∷ 0x52000000 ∷ 0x72000000 ∷ []

-- "plus 80000000 at width 64"
abbrev pub base_of : ℕ → ℕ → ℕ
base_of operation w = get_or bases operation 0 + cond (eqb w 64) 0x80000000 0

-- "N at bit 22, R at 16, S at 10, rn at 5, rd at 0"
abbrev pub placed_of : ℕ → LogicalImm → ℕ → ℕ → ℕ
placed_of base f rn rd = base + f.n * 2 ^ 22 + f.r * 2 ^ 16 + f.s * 2 ^ 10 + rn * 2 ^ 5 + rd

-- one word of the fields that the encoder gives, or the encoder's number
abbrev pub filled : ℕ → ℕ → ℕ → Said LogicalImm → Said (List ℕ)
filled base rn rd (ok f) = ok (placed_of base f rn rd ∷ [])
filled base rn rd (no k) = no k

-- "Order 7, 1, 2, 3", from what the encoder says of the value
unfoldable pub word_of : (operation w rn rd : ℕ) → Said LogicalImm → Said (List ℕ)
word_of operation w rn rd a =
    cond (ltb 3 operation) (no 7)
    (cond (not (eqb w 32 || eqb w 64)) (no 1)
    (cond (ltb 31 rn || ltb 31 rd) (no 2)
    (filled (base_of operation w) rn rd a)))

-- P x, where x is what the entry says: the word from an answer of the encoder to v, of which `Encoded` allows one
abbrev pub ForWord : (operation v w rn rd : ℕ) → (Said (List ℕ) → Type 0) → Type 0
ForWord operation v w rn rd P = (a : Said LogicalImm) × Encoded w v a × P (word_of operation w rn rd a)
