-- What a whole input prints. Assumes nothing.
use Rattle.std.specs.Prelude.{Bool, true, false, List, [], ◌∷◌, ◌++◌, ℕ, suc, ◌+◌, ◌*◌, ◌/◌, ◌%◌, ◌^◌, ◌≤◌, length, take, drop}
use Rattle.lines.specs.Item.{Item, words, numbers, no, bad_mark, cut_at}
use Rattle.records.specs.Records.{LineOf, tail_of}

-- record k of bytes that stand at an offset, and its own offset, a 64-bit number
abbrev pub record_at : List ℕ → ℕ → List ℕ
record_at bs k = take 12 (drop (12 * k) bs)

abbrev pub offset_after : ℕ → ℕ → ℕ
offset_after offset k = (offset + 12 * k) % 2 ^ 64

-- "`bad mark at` or `cut at` .., then the end"
abbrev pub ends_at : Item → Bool
ends_at (words ws) = false
ends_at (numbers ns) = false
ends_at (no n) = false
ends_at (bad_mark o) = true
ends_at (cut_at o) = true

-- the lines of the first k records, one each, and whether the last of them is the end
pub data Told (offset : ℕ) (bs : List ℕ) : ℕ → Bool → List Item → Type 0 where
  none : Told offset bs 0 false []
  more : {k : ℕ} {is : List Item} (i : Item) → Told offset bs k false is → LineOf (record_at bs k) (offset_after offset k) i
      → Told offset bs (suc k) (ends_at i) (is ++ (i ∷ []))

-- the lines of all records and the tail's; or those up to the end before. A whole input stands at offset 0
pub data Prints (offset : ℕ) (bs : List ℕ) : List Item → Type 0 where
  whole : {is : List Item} → Told offset bs (length bs / 12) false is → Prints offset bs (is ++ tail_of (length bs % 12) (offset_after offset (length bs / 12)))
  ended : {k : ℕ} {is : List Item} → Told offset bs k true is → k ≤ length bs / 12 → Prints offset bs is
