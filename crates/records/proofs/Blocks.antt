-- An input block by block: each block but the last is whole records, and the lines of the blocks, one after the other, are the input's.
-- Assumes nothing.
use mathlib.Core.Path.{◌≡◌, ap, ◌∙◌}
use mathlib.Core.Bool.{Bool, true, false}
use mathlib.Core.List.{List, ◌++◌, append_assoc, append-nil}
use Prim.Native.Nat.{ℕ, zero, suc, ◌+◌, ◌*◌, ◌/◌, ◌%◌, ◌^◌, ◌≤◌, ◌<◌}
use native.Mathlib.Nat.{add-zero, add-suc, mod-add-mod}
use native.Mathlib.Omega.{arith}
use lib.ListN.{length, take, drop, length-append, length-drop}
use lib.Seq.{take-append-le, drop-append-le, drop-append-add}
use Rattle.lines.specs.Item.{Item}
use Rattle.records.specs.Inputs.{record_at, offset_after, Told, none, more, Prints, whole, ended}

-- the offset of a block's record
pub offset_at : (offset m k : ℕ) → offset_after (offset_after offset m) k ≡ offset_after offset (m + k)
offset_at offset m k = mod-add-mod (offset + 12 * m) (2 ^ 64) (12 * k) ∙ ap (λ (n : ℕ). n % 2 ^ 64) (omega arith)

-- a block a of m records, and what follows it
module _ (offset : ℕ) (a b : List ℕ) (m : ℕ) (full : length a ≡ 12 * m) where
  record_left : (k : ℕ) → k < m → record_at (a ++ b) k ≡ record_at a k
  record_left k h =
      ap (take 12) (drop-append-le (12 * k) a b (omega arith)) ∙ take-append-le 12 (drop (12 * k) a) b (simp length-drop (omega arith))

  record_right : (k : ℕ) → record_at (a ++ b) (m + k) ≡ record_at b k
  record_right k =
      let e : 12 * (m + k) ≡ length a + 12 * k = omega arith in
      ap (λ (n : ℕ). take 12 (drop n (a ++ b))) e ∙ ap (take 12) (drop-append-add a b (12 * k))

  told_left : (k : ℕ) {s : Bool} {is : List Item} → k ≤ m → Told offset a k s is → Told offset (a ++ b) k s is
  told_left zero h none = none
  told_left (suc k) h (more i p l) = more i (told_left k (omega arith) p) (rw (record_left k h) l)

  pub told_blocks : (k : ℕ) {s : Bool} {is js : List Item} → Told offset a m false is → Told (offset_after offset m) b k s js → Told offset (a ++ b) (m + k) s (is ++ js)
  told_blocks zero {is = is} p none = rw (add-zero m, append-nil is) (told_left m (omega arith) p)
  told_blocks (suc k) p (more i q l) = rw (add-suc m k, ← append_assoc) (more i (told_blocks k p q) (rw (record_right k, ← offset_at offset m k) l))

  -- a block that goes on
  pub blocks : (is js : List Item) → Told offset a m false is → Prints (offset_after offset m) b js → Prints offset (a ++ b) (is ++ js)
  blocks is js p (whole {is = ks} q) =
      let n : length (a ++ b) / 12 ≡ m + length b / 12 = simp length-append (omega arith) in
      let r : length (a ++ b) % 12 ≡ length b % 12 = simp length-append (omega arith) in
      let t : Told offset (a ++ b) (length (a ++ b) / 12) false (is ++ ks) = rw n (told_blocks (length b / 12) p q) in
      rw (r, n, ← offset_at offset m (length b / 12), append_assoc) at (whole t)
  blocks is js p (ended {k = k} q h) = ended (told_blocks k p q) (simp length-append (omega arith))

  -- a block in which the end is
  pub last_block : {k : ℕ} {is : List Item} → Told offset a k true is → k ≤ m → Prints offset (a ++ b) is
  last_block {k} p h = ended (told_left k h p) (simp length-append (omega arith))
