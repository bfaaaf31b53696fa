-- What `encode_lmh` says. Assumes nothing.
use Rattle.std.specs.Prelude.{cond, ℕ, ◌*◌, ◌/◌, ◌%◌, eqb, ltb}
use Rattle.words.specs.Said.{Said, ok, no}
use Rattle.simd.specs.declared.Lmh.{Lmh}

-- "order 7, 9: size 1, index to 7, h = index/4, lm = index mod 4, limit 15; size 2, index to 3, h = index/2, lm = 2·(index mod 2), limit 31"
unfoldable pub lmh_of : ℕ → ℕ → Said Lmh
lmh_of size index =
    cond (eqb size 1) (cond (ltb 7 index) (no 9) (ok (record { lm = index % 4; h = index / 4; max_rm_id = 15 })))
    (cond (eqb size 2) (cond (ltb 3 index) (no 9) (ok (record { lm = 2 * (index % 2); h = index / 2; max_rm_id = 31 })))
    (no 7))
