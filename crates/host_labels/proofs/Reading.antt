-- What a host reads from the one number of a call that is all or nothing, and what it finds in the memory that it lent. Assumes nothing.
use mathlib.Core.Path.{◌≡◌, refl, ap}
use Prim.Native.Nat.{ℕ, zero, suc}
use native.Mathlib.Omega.{arith}
use lib.IntN.{ℤ}
use Rattle.words.specs.Said.{ok, no}
use Rattle.words.proofs.Answers.{number_fits}
use Rattle.labels.specs.Order.{answer}
use Rattle.labels.proofs.Tests.{Coded}
use Rattle.host.specs.Number.{Reads, refusal_in}
use Rattle.host.proofs.Reading.{Small, told_reads}
use Rattle.host_labels.specs.Number.{valued, numbering}

-- r is the number that decides, x what is said where it refuses nothing, v its value, n the number that is answered, b what was lent
module _ {A B : Type 0} (v : A → ℤ) (r : ℕ) (c : Coded r) (x : A) (old new : B) (n : ℕ) (b : B)
    (e : ◌≡◌ {A = ℕ × B} (n, b) (numbering v (answer r x old new))) where
  said : n ≡ (numbering v (answer r x old new)).0
  said = ap (λ (p : ℕ × B). p.0) e

  lent : b ≡ (numbering v (answer r x old new)).1
  lent = ap (λ (p : ℕ × B). p.1) e

  pub reads : (r ≡ 0 → Small (ok (v x))) → Reads n (valued v (answer r x old new).0)
  reads small = go r c small said
    where
      go : (r : ℕ) → Coded r → (r ≡ 0 → Small (ok (v x))) → n ≡ (numbering v (answer r x old new)).0 → Reads n (valued v (answer r x old new).0)
      go zero c s e = rw e (told_reads (ok (v x)) (s refl))
      go (suc r) c s e = rw e (told_reads (no (suc r)) c)

  -- a refusal: all that was lent is as before
  pub kept : (refusal_in n ≡ 0 → ⊥) → b ≡ old
  kept h = go r said lent
    where
      go : (r : ℕ) → n ≡ (numbering v (answer r x old new)).0 → b ≡ (numbering v (answer r x old new)).1 → b ≡ old
      go zero e g = absurd (h (omega (arith, e)))
      go (suc r) e g = g

  -- none: nothing refused, and it is the new
  pub done : refusal_in n ≡ 0 → (r ≡ 0) × (b ≡ new)
  done h = go r c said lent
    where
      go : (r : ℕ) → Coded r → n ≡ (numbering v (answer r x old new)).0 → b ≡ (numbering v (answer r x old new)).1 → (r ≡ 0) × (b ≡ new)
      go zero c e g = (refl, g)
      go (suc r) c e g = absurd (omega (arith, e, h, number_fits c))
