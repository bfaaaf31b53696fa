-- What the words of a patchable move leave, run by Arm's interpreter: the asked value in the register, and every other register as it was.
-- Assumes nothing.
use mathlib.Core.Path.{◌≡◌, refl, ap, ◌∙◌}
use mathlib.Core.Bool.{false}
use mathlib.Core.List.{[], ◌∷◌}
use mathlib.Core.Option.{some}
use Prim.Native.Nat.{ℕ, ◌+◌, ◌*◌, ◌%◌, ◌^◌, ◌<◌}
use native.Mathlib.Omega.{arith}
use Rattle.arm.specs.MoveWide.{Regs, write, insert, run}
use Rattle.arm.proofs.Wide.{ran, write_write, write_same}
use Rattle.halfwords.specs.Halfwords.{half}
use Rattle.moves.specs.Moves.{word}
use Rattle.moves.proofs.Run.{low_half, fills, movz_run}
use Rattle.patchable_moves.specs.Patchable.{movk32, patch64, patch32}

module _ (rd : ℕ) (rd_is : rd < 31) where
  pub patch64_run : (v : ℕ) → v < 2 ^ 64 → (R : Regs) → run (patch64 v rd) R ≡ some (write R rd v)
  unfolding patch64
  patch64_run v l R =
      movz_run rd rd_is ((0, half v 0) ∷ (1, half v 1) ∷ (2, half v 2) ∷ (3, half v 3) ∷ []) (omega arith) R
      ∙ ap (λ (y : ℕ). some (write R rd y)) (fills 0 v (omega arith) l false false false false (λ e. cc) (λ e. cc) (λ e. cc) (λ e. cc))

  two : (a b : ℕ) → a < 2 ^ 16 → insert (insert 0 (16 * 0) a) (16 * 1) b ≡ a + b * 2 ^ 16
  two a b l = omega arith

  -- the low 32 bits; the upper half is clear
  pub patch32_run : (v : ℕ) (R : Regs) → run (patch32 v rd) R ≡ some (write R rd (v % 2 ^ 32))
  unfolding patch32 run
  patch32_run v R =
      let a = half v 0 in
      let x = insert 0 (16 * 0) a in
      let old : write R rd x rd % 2 ^ 32 ≡ x = rw (write_same R rd x) (omega arith) in
      ran 0 2 0 a rd (omega arith) refl (word movk32 1 (half v 1) rd ∷ []) R
      ∙ ran 0 3 1 (half v 1) rd (omega arith) refl [] (write R rd x)
      ∙ ap some (write_write R rd x _ ∙ ap (λ (y : ℕ). write R rd (insert y (16 * 1) (half v 1))) old ∙ ap (write R rd) (two a (half v 1) (omega arith) ∙ low_half v))
