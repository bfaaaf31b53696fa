-- The words of a patchable move; document 01's sentences stand in quotes. Assumes nothing.
use Rattle.std.specs.Prelude.{Bool, cond, not, ◌||◌, List, [], ◌∷◌, ℕ, eqb, ltb}
use Rattle.words.specs.Said.{Said, ok, no}
use Rattle.halfwords.specs.Halfwords.{half}
use Rattle.moves.specs.Moves.{movz, movk, word}

-- "Bases D2800000/F2800000 and 52800000/72800000"
abbrev pub movz32 : ℕ
movz32 = 0x52800000

abbrev pub movk32 : ℕ
movk32 = 0x72800000

-- "Always four words at 64, two at 32, where the asked value is the low 32 bits"
unfoldable pub patch64 : ℕ → ℕ → List ℕ
patch64 v rd = word movz 0 (half v 0) rd ∷ word movk 1 (half v 1) rd ∷ word movk 2 (half v 2) rd ∷ word movk 3 (half v 3) rd ∷ []

unfoldable pub patch32 : ℕ → ℕ → List ℕ
patch32 v rd = word movz32 0 (half v 0) rd ∷ word movk32 1 (half v 1) rd ∷ []

unfoldable pub patch_words : ℕ → ℕ → ℕ → List ℕ
patch_words v size rd = cond (eqb size 64) (patch64 v rd) (patch32 v rd)

abbrev pub is_register_size : ℕ → Bool
is_register_size size = eqb size 64 || eqb size 32

-- "Order 1, 2, 8"
unfoldable pub patch_said : ℕ → ℕ → ℕ → Said (List ℕ)
patch_said v size rd = cond (not (is_register_size size)) (no 1) (cond (ltb 30 rd) (no 2) (ok (patch_words v size rd)))
