-- From what the byte writer says to the one number. Assumes nothing.
use mathlib.Core.Path.{◌≡◌, refl, sym, ap, subst, ◌∙◌}
use mathlib.Core.List.{List}
use mathlib.Core.Option.{some, none}
use Prim.Native.Nat.{ℕ, ◌+◌, ◌-◌, ◌*◌, ◌^◌, ◌≤◌}
use native.Mathlib.Omega.{arith}
use lib.IntN.{ℤ, pos}
use lib.ListN.{length, length-take}
use Rattle.words.specs.Said.{Said, ok, no}
use Rattle.words.specs.Answer.{said}
use Rattle.words.specs.Listed.{listed, packed}
use Rattle.words.specs.Place.{pos_of}
use Rattle.writers.specs.Put.{put_bytes_of}
use Rattle.writers.specs.Says.{unaligned, refused, full, done, PutsBytes}
use Rattle.words.specs.declared.Place.{Place}
use Rattle.words.specs.declared.Words.{Words}
use Rattle.words.proofs.Answers.{Short}
use Rattle.writers.proofs.Writes.{Answer, bytes_says, bytes_no}
use Rattle.disp_targets.specs.Target.{target_said, low_of, carrying, carried}
use Rattle.disp_targets.proofs.Targets.{put_target_lem}
use Rattle.host.specs.Number.{told, counted, host_of, host_put, counted_to, host_to_of, host_put_to, host_target}
use Rattle.host.specs.Private.{Near}
use Rattle.std.specs.Prelude.{Result}
use Rattle.words.specs.declared.Refusal.{Refusal}

-- words by value are four at most
list_short : (x : Said Words) → Short (listed x)
list_short (ok f) = simp length-take (omega arith)
list_short (no n) = tt

put_near : (l : List ℕ) (at : Place) (x : Said (List ℕ)) → Short x → Near at (put_bytes_of l at x).0
put_near l at x h = go (bytes_says l at x)
  where
    go : {z : Answer} → PutsBytes l at x z → Near at z.0
    go (unaligned o) = tt
    go (refused n a e) = tt
    go (full vs a e f) = tt
    go (done vs a e f) = let s : length vs ≤ 4 = subst Short e h in omega arith

module _ (l : List ℕ) (at : Place) (m : (Result Words Refusal)) (w : (Result Place Refusal)) (l' : List ℕ) (put : (said w, l') ≡ put_bytes_of l at (listed (said m))) where
  pub near : Near at (said w)
  near = subst (Near at) (sym (ap (λ (k : Answer). k.0) put)) (put_near l at (listed (said m)) (list_short (said m)))

  pub hosted : {n : ℕ} → n ≡ told (counted at (said w)) → (n, l') ≡ host_put l at (listed (said m))
  hosted r = ap (λ (k : ℕ). (k, l')) r ∙ ap (host_of at) put

  -- with the low bits of a target
  pub hosted_page : {n : ℕ} (k : ℕ) → n ≡ told (counted_to at (carrying (some k) (said w))) → (n, l') ≡ host_put_to l at (some k) (listed (said m))
  hosted_page k r = ap (λ (j : ℕ). (j, l')) r ∙ ap (λ (z : Answer). host_to_of at (carried (some k) z)) put

-- the words by value are those that are asked for
pub asked : (l : List ℕ) (at : Place) {y : ℕ × List ℕ} {z x : Said (List ℕ)} → y ≡ host_put l at z → z ≡ x → y ≡ host_put l at x
asked l at p e = p ∙ ap (host_put l at) e

-- ---- a target's words

-- no low bits are the number 0
pub counted_none : (at : Place) (x : Said Place) → counted at x ≡ counted_to at (carrying none x)
counted_none at (ok p) = let c = pos_of p - pos_of at in let e : c ≡ c + 0 * 2 ^ 8 = omega arith in ap (λ (k : ℕ). ok (pos k)) e
counted_none at (no n) = refl

pub hosted_none : (l : List ℕ) (at : Place) (x : Said (List ℕ)) {y : ℕ × List ℕ} → y ≡ host_put l at x → y ≡ host_put_to l at none x
hosted_none l at x p = let z = put_bytes_of l at x in p ∙ ap (λ (s : Said ℤ). (told s, z.1)) (counted_none at z.0)

pub landed : (l : List ℕ) (at : Place) (n b t a : ℕ) → host_target l at (carrying (low_of n t) (packed (target_said n b t a))) ≡ host_put_to l at (low_of n t) (target_said n b t a)
landed l at n b t a = ap (host_to_of at) (put_target_lem (put_bytes_of l at) (bytes_no l at) n b t a)
