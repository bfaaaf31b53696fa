-- What a host reads and finds after any call, over the definitions that the contracts cite. Assumes nothing.
use mathlib.Core.Path.{◌≡◌, refl, sym, ap, subst, subst⁻¹, ◌∙◌}
use mathlib.Core.Logic.{◌⊎◌}
use mathlib.Core.Bool.{Bool, true, false, cond}
use mathlib.Core.List.{List}
use mathlib.Core.Option.{Option, some, none}
use Prim.Native.Nat.{ℕ, ◌+◌, ◌-◌, ◌*◌, ◌%◌, ◌≤◌, ◌<◌}
use native.Mathlib.Nat.{mod-lt}
use native.Mathlib.Omega.{arith}
use lib.Dec.{eqb}
use lib.ListN.{length, get_or}
use lib.Pow.{pow_pos}
use lib.Seq.{slice}
use Rattle.words.specs.Said.{Said, ok, no}
use Rattle.words.specs.Answer.{IsNumber}
use Rattle.words.specs.Place.{pos_of, Aligned}
use Rattle.words.specs.declared.Place.{Place}
use Rattle.words.specs.declared.Refusal.TheVariants.{Width, Register, NoRoom, Unaligned}
use Rattle.writers.specs.Put.{all_bytes, put_bytes_of}
use Rattle.writers.specs.Says.{unaligned, refused, full, done, PutsBytes}
use Rattle.words.proofs.Answers.{Alone, Numbered, number_fits}
use Rattle.writers.proofs.Writes.{Answer, bytes_says, bytes_15, bytes_refused, bytes_written, bytes_others, bytes_done}
use Rattle.moves.specs.Moves.{mov_said}
use Rattle.moves.proofs.Lengths.{mov_by, mov_some}
use Rattle.patchable_moves.specs.Patchable.{patch_said}
use Rattle.patchable_moves.proofs.Lengths.{patch_by, patch64_length, patch32_length}
use Rattle.disp_targets.specs.Target.{low_of, carrying, carried}
use Rattle.host.specs.Number.{told, refusal_in, Reads, counted, host_put, low_bits, counted_to, host_to_of, host_put_to, count_in, low_in}
use Rattle.host.proofs.Laws.{counted_none, hosted_none}
use Rattle.host.proofs.Reading.{Small, told_reads, told_parts}

-- ---- all that write

-- four words at most, or the number of a refusal
abbrev pub Sane : Said (List ℕ) → Type 0
Sane (ok ws) = length ws ≤ 4
Sane (no n) = IsNumber n

-- low bits are 12 at most
abbrev pub Low : Option ℕ → Type 0
Low low = low_bits low < 4096

pub low_none : Low none
low_none = omega arith

pub target_low : (n t : ℕ) → Low (low_of n t)
target_low n t = go (eqb n 4)
  where
    go : (b : Bool) → Low (cond b (some (t % 4096)) none)
    go true = mod-lt t (pow_pos 12)
    go false = omega arith

put_small : (l : List ℕ) (at : Place) (low : Option ℕ) (x : Said (List ℕ)) → Low low → Sane x → Small (counted_to at (carrying low (put_bytes_of l at x).0))
put_small l at low x f h = go (bytes_says l at x)
  where
    go : {z : Answer} → PutsBytes l at x z → Small (counted_to at (carrying low z.0))
    go (unaligned o) = (Unaligned, refl)
    go (refused n a e) = subst Sane e h
    go (full vs a e o) = (NoRoom, refl)
    go (done vs a e o) = let s : length vs ≤ 4 = subst Sane e h in omega arith

module _ (l : List ℕ) (at : Place) (n : ℕ) (l' : List ℕ) where
  -- the call answered n and left l'; of a target's words, with low bits
  abbrev pub Called : Said (List ℕ) → Type 0
  Called x = (n, l') ≡ host_put l at x

  abbrev pub CalledTo : Option ℕ → Said (List ℕ) → Type 0
  CalledTo low x = (n, l') ≡ host_put_to l at low x

  pub plainly : (x : Said (List ℕ)) → Called x → CalledTo none x
  plainly x e = hosted_none l at x e

  -- the number is read as what the writer says
  pub reads_to : (low : Option ℕ) (x : Said (List ℕ)) → Low low → Sane x → CalledTo low x → Reads n (counted_to at (carrying low (put_bytes_of l at x).0))
  reads_to low x f h e =
      let y = counted_to at (carrying low (put_bytes_of l at x).0) in
      subst⁻¹ (λ (k : ℕ). Reads k y) (ap (λ (z : ℕ × List ℕ). z.0) e) (told_reads y (put_small l at low x f h))

  pub reads : (x : Said (List ℕ)) → Sane x → Called x → Reads n (counted at (put_bytes_of l at x).0)
  reads x h e = subst⁻¹ (Reads n) (counted_none at (put_bytes_of l at x).0) (reads_to none x low_none h (plainly x e))

  left : (low : Option ℕ) (x : Said (List ℕ)) → CalledTo low x → l' ≡ (put_bytes_of l at x).1
  left low x e = ap (λ (y : ℕ × List ℕ). y.1) e

  -- with a refusal every byte is as before
  pub kept_to : (low : Option ℕ) (x : Said (List ℕ)) → CalledTo low x → (refusal_in n ≡ 0 → ⊥) → l' ≡ l
  kept_to low x e h = go (put_bytes_of l at x) refl (ap (λ (y : ℕ × List ℕ). y.0) e) (left low x e)
    where
      go : (y : Answer) → put_bytes_of l at x ≡ y → n ≡ told (counted_to at (carrying low y.0)) → l' ≡ y.1 → l' ≡ l
      go (ok p, k) q r s = absurd (h (omega arith))
      go (no m, k) q r s = s ∙ bytes_refused l at x k m (sym q)

  pub kept : (x : Said (List ℕ)) → Called x → (refusal_in n ≡ 0 → ⊥) → l' ≡ l
  kept x e = kept_to none x (plainly x e)

  -- "15 is tested first": with a base that is no multiple of 4 the number is 15, whatever is asked for, and every byte is as before
  pub fifteen_to : (low : Option ℕ) (x : Said (List ℕ)) → CalledTo low x → (Aligned at → ⊥) → (n ≡ 15) × (l' ≡ l)
  fifteen_to low x e h =
      let y = e ∙ ap (λ (z : Answer). host_to_of at (carried low z)) (bytes_15 l at x h) in
      (ap (λ (z : ℕ × List ℕ). z.0) y, ap (λ (z : ℕ × List ℕ). z.1) y)

  pub fifteen : (x : Said (List ℕ)) → Called x → (Aligned at → ⊥) → (n ≡ 15) × (l' ≡ l)
  fifteen x e = fifteen_to none x (plainly x e)

  -- without one, the words asked for stand from the position on, as many as the number says, and the low bits are those that are carried; every
  -- other byte is as before, the tail too
  pub record Stands (low : Option ℕ) (vs : List ℕ) : Type 0 where
    pub count : count_in n ≡ length vs
    pub bits : low_in n ≡ low_bits low
    pub words : slice (pos_of at * 4) ((pos_of at + length vs) * 4) l' ≡ all_bytes vs
    pub others : (k : ℕ) → (k < pos_of at * 4) ⊎ ((pos_of at + length vs) * 4 ≤ k) → get_or l' k 0 ≡ get_or l k 0

  pub stands_to : (low : Option ℕ) (x : Said (List ℕ)) → Low low → Sane x → CalledTo low x → refusal_in n ≡ 0 → (vs : List ℕ) × (x ≡ ok vs) × Stands low vs
  stands_to low x f h e z = go (put_bytes_of l at x) refl (ap (λ (y : ℕ × List ℕ). y.0) e) (reads_to low x f h e) (left low x e)
    where
      go : (y : Answer) → put_bytes_of l at x ≡ y → n ≡ told (counted_to at (carrying low y.0))
          → Reads n (counted_to at (carrying low y.0)) → l' ≡ y.1 → (vs : List ℕ) × (x ≡ ok vs) × Stands low vs
      go (no m, k) q i r s = absurd (omega (arith, (number_fits r.0).0, r.1))
      go (ok p, k) q i r s =
          let d = bytes_done l at x k p (sym q) in
          let four : length d.vs ≤ 4 = subst Sane d.asked h in
          let end : pos_of p ≡ pos_of at + length d.vs = ap pos_of d.past in
          let many : pos_of p - pos_of at ≡ length d.vs = omega (arith, end) in
          let parts = told_parts n (pos_of p - pos_of at) (low_bits low) i (omega arith) f in (
            d.vs,
            d.asked,
            record {
              count = parts.0 ∙ many;
              bits = parts.1;
              words = rw (s, ← end) (bytes_written l at x p k (sym q));
              others = λ j o. rw s (bytes_others l at x p k (sym q) j (rw (← end) at o));
            },
          )

  pub stands : (x : Said (List ℕ)) → Sane x → Called x → refusal_in n ≡ 0 → (vs : List ℕ) × (x ≡ ok vs) × Stands none vs
  stands x h e = stands_to none x low_none h (plainly x e)

-- one word, or a refusal's number
pub one_sane : (x : Said (List ℕ)) → Alone x → Numbered x → Sane x
one_sane (ok ws) a n = omega arith
one_sane (no k) a n = n

-- ---- the moves' words are four at most, and their refusals have numbers

pub move_sane : (v rd : ℕ) → Sane (mov_said v rd)
move_sane v rd = mov_by v rd Sane (λ h. (Register, refl)) (λ l. (mov_some v rd).most)

pub patchable_sane : (v size rd : ℕ) → Sane (patch_said v size rd)
patchable_sane v size rd = patch_by v size rd Sane (Width, refl) (Register, refl) (λ e l. omega (arith, patch64_length v rd)) (λ e l. omega (arith, patch32_length v rd))
