-- What the contract of `element_type_to_size_op` amounts to, sentence by sentence. Assumes nothing.
use mathlib.Core.Path.{◌≡◌, refl}
use mathlib.Core.Bool.{false}
use mathlib.Core.Logic.{◌⊎◌, inl, inr}
use Prim.Native.Nat.{ℕ, ◌≤◌, ◌<◌}
use borrow.Author.Tests.{lt-ltb, le-ltb}
use lib.Dec.{ltb}
use Rattle.words.specs.Said.{Said, ok, no}
use Rattle.words.specs.Bit.{bit_of}
use Rattle.simd.proofs.Laws.{either}
use Rattle.size_ops.specs.SizeOp.{entry_of, accepted_of, size_op_of}

abbrev Seven : Said ℕ → Type 0
Seven a = a ≡ no 7

-- "only unknown numbers get 7": with known ones there is an answer, FF among them
module _ (table mask accept kind element : ℕ) where
  pub size_op_known :
      table ≤ 1 → kind ≤ 7 → element ≤ 7
      → size_op_of table mask accept kind element ≡ ok (accepted_of mask accept (entry_of table kind element))
  unfolding size_op_of
  size_op_known t k e = simp (le-ltb 1 table t, le-ltb 7 kind k, le-ltb 7 element e)

  pub size_op_unknown : (1 < table) ⊎ (7 < kind) ⊎ (7 < element) → size_op_of table mask accept kind element ≡ no 7
  unfolding size_op_of
  size_op_unknown (inl h) = simp (lt-ltb 1 table h)
  size_op_unknown (inr (inl h)) = either Seven (ltb 1 table) _ _ (λ t. refl) (λ t. simp (lt-ltb 7 kind h))
  size_op_unknown (inr (inr h)) =
      either Seven (ltb 1 table) _ _ (λ t. refl) (λ t. either Seven (ltb 7 kind) _ _ (λ k. refl) (λ k. simp (lt-ltb 7 element h)))

-- "FF, or an entry that is no bit of the accept mask, gives FF"
pub ff_is_answered : (mask accept : ℕ) → accepted_of mask accept 0xFF ≡ 0xFF
unfolding accepted_of
ff_is_answered mask accept = refl

pub not_accepted : (mask accept entry : ℕ) → bit_of accept entry ≡ false → accepted_of mask accept entry ≡ 0xFF
unfolding accepted_of
not_accepted mask accept entry h = simp h
