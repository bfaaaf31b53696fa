-- What a host reads from the number of a call, by the entry's own contract. Assumes nothing.
use mathlib.Core.Path.{subst, subst⁻¹}
use Prim.Native.Nat.{ℕ, ◌^◌, ◌<◌}
use native.Mathlib.Omega.{arith}
use contract.Lifetimes.{Lfts}
use lib.IntN.{pos}
use Rattle.words.specs.Said.{ok}
use Rattle.items.specs.Items.{item_of}
use Rattle.item_words.specs.Again.{rewritten}
use Rattle.item_words.proofs.Again.{Ordinary, same_word}
use Rattle.host.specs.Number.{Reads}
use Rattle.host.proofs.Reading.{told_reads}
use Rattle.host_rewrites.proofs.Laws.{rewritten_fits}
use Rattle.host_rewrites.proofs.vaimalofo_rewrite.Reads as rewrite

module _ (k : Lfts 0) (word answer : ℕ) (l : word < 2 ^ 32) (p : rewrite.Post k (word, tt) answer (word, tt)) where
  -- the word that its item is written as: never a refusal
  pub rewrite_read : Reads answer (ok (pos (rewritten word)))
  rewrite_read = subst⁻¹ (λ (n : ℕ). Reads n (ok (pos (rewritten word)))) p (told_reads (ok (pos (rewritten word))) (omega (arith, rewritten_fits word l)))

  -- "is the same word", where it is not reported as not normal
  pub rewrite_same : Ordinary (item_of word) → Reads answer (ok (pos word))
  rewrite_same o = subst (λ (w : ℕ). Reads answer (ok (pos w))) (same_word word l o) rewrite_read
