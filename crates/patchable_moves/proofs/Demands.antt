-- What is asked of patchable moves: the words leave the asked value, which at 32 is the low 32 bits with the upper half clear, and nothing
-- else changed, from any old content; and how many there are. Assumes nothing.
use mathlib.Core.Path.{◌≡◌, sym, ap, ◌∙◌}
use mathlib.Core.List.{List}
use mathlib.Core.Option.{some}
use Prim.Native.Nat.{ℕ, ◌/◌, ◌%◌, ◌^◌, ◌<◌}
use native.Mathlib.Nat.{mod-eq_of_lt}
use native.Mathlib.Omega.{arith}
use lib.ListN.{length}
use lib.Seq.{slice}
use Rattle.arm.specs.MoveWide.{Regs, write, run}
use Rattle.words.specs.Said.{ok}
use Rattle.words.specs.Listed.{list_of, packed}
use Rattle.words.specs.Place.{pos_of, on}
use Rattle.words.specs.declared.Place.{Place}
use Rattle.words.specs.declared.Words.{Words}
use Rattle.words.proofs.Answers.{not_both}
use Rattle.writers.proofs.Writes.{put-done, written}
use Rattle.moves.proofs.Calls.{Put, Leaves, made_said, counted}
use Rattle.patchable_moves.specs.Patchable.{patch64, patch32, patch_said}
use Rattle.patchable_moves.proofs.Run.{patch64_run, patch32_run}
use Rattle.patchable_moves.proofs.Lengths.{patch_by, patch64_length, patch32_length, patch_short}

-- ---- the asked value

module _ (v size rd : ℕ) (v-is : v < 2 ^ 64) (R : Regs) where
  -- the words that are said
  pub patch_said_lem : (ws : List ℕ) → patch_said v size rd ≡ ok ws → run ws R ≡ some (write R rd (v % 2 ^ size))
  patch_said_lem ws =
      patch_by v size rd (λ x. x ≡ ok ws → run ws R ≡ some (write R rd (v % 2 ^ size)))
      (λ e. absurd (not_both (sym e)))
      (λ e. absurd (not_both (sym e)))
      (λ s l e. let same : patch64 v rd ≡ ws = cc in rw (← same, s, mod-eq_of_lt v-is) (patch64_run rd l v v-is R))
      (λ s l e. let same : patch32 v rd ≡ ws = cc in rw (← same, s) (patch32_run rd l v R))

  -- in the run after a call that was not turned down
  pub patched : (ws : List ℕ) (at p : Place) (ws' : List ℕ) → Put ws at p ws' (patch_said v size rd) → Leaves at p ws' R rd (v % 2 ^ size)
  patched ws at p ws' e = patch_said_lem (slice (pos_of at) (pos_of p) ws') (written ws at (patch_said v size rd) p ws' e)

  -- by value
  pub patch_made : (f : Words) → ok f ≡ packed (patch_said v size rd) → run (list_of f) R ≡ some (write R rd (v % 2 ^ size))
  patch_made f e = patch_said_lem (list_of f) (made_said f (patch_said v size rd) (patch_short v size rd) e)

-- ---- how many words: always four at 64 and two at 32

module _ (v size rd : ℕ) where
  -- by value
  pub patch_count : (f : Words) → ok f ≡ packed (patch_said v size rd) → f.count ≡ size / 16
  patch_count f =
      patch_by v size rd (λ x. ok f ≡ packed x → f.count ≡ size / 16)
      (λ e. absurd (not_both e))
      (λ e. absurd (not_both e))
      (λ s l e. counted f (patch64 v rd) e ∙ omega (arith, patch64_length v rd))
      (λ s l e. counted f (patch32 v rd) e ∙ omega (arith, patch32_length v rd))

  -- through the writer: the position moves on by as many, and the base stays
  pub patched_past : (ws : List ℕ) (at p : Place) (ws' : List ℕ) → Put ws at p ws' (patch_said v size rd) → p ≡ on at (size / 16)
  patched_past ws at p ws' e = let d = put-done ws at (patch_said v size rd) ws' p e in d.past ∙ ap (on at) (go d.vs d.asked)
    where
      go : (vs : List ℕ) → patch_said v size rd ≡ ok vs → length vs ≡ size / 16
      go vs =
          patch_by v size rd (λ x. x ≡ ok vs → length vs ≡ size / 16)
          (λ q. absurd (not_both (sym q)))
          (λ q. absurd (not_both (sym q)))
          (λ s l q. let same : vs ≡ patch64 v rd = cc in ap length same ∙ omega (arith, patch64_length v rd))
          (λ s l q. let same : vs ≡ patch32 v rd = cc in ap length same ∙ omega (arith, patch32_length v rd))
