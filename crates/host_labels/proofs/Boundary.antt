-- Demands 1 and 2 at the host's boundary, by the entries' own contracts: what a host reads from the number of a call, and what it finds in the table,
-- the sheet and the run that it lent. A refusal is one of the refusals' numbers, and leaves them as they were. Assumes nothing.
use mathlib.Core.Path.{◌≡◌, refl, sym, ap, subst, ◌∙◌}
use mathlib.Core.List.{List}
use Prim.Native.Nat.{ℕ, ◌+◌, ◌%◌, ◌^◌, ◌<◌}
use native.Mathlib.Omega.{arith}
use lib.IntN.{pos}
use lib.ListN.{length, get_or, set, take}
use Rattle.words.specs.Said.{Said, ok}
use Rattle.words.specs.Place.{place_at, base_of, pos_of, address_of, Aligned}
use Rattle.words.specs.declared.Place.{Place}
use Rattle.displacements.specs.Answer.{offset}
use Rattle.disp_targets.specs.Target.{page_of}
use Rattle.labels.specs.declared.Use.{Use}
use Rattle.labels.specs.Order.{first, answer}
use Rattle.labels.specs.Sheet.{none, room_for, names, bind_tests, bind_of, use_record, use_of, target, finish_of, filled}
use Rattle.labels.proofs.Tests.{Coded, numbers, first_coded}
use Rattle.labels.proofs.Finishing.{room_below, number_of_use, number_of_finish, Finished, finished, finish_arrives}
use Rattle.labels.proofs.Coded.{may_room, may_coded, finish_coded}
use Rattle.labels.proofs.Edges.{bind_15, use_15, finish_15}
use Rattle.host.specs.Number.{Reads, refusal_in, value_in}
use Rattle.host.proofs.Boundary.{Refusals, known}
use Rattle.host_labels.specs.Number.{valued, numbering, host_bind, host_use, host_finish}
use Rattle.host_labels.proofs.Reading.{reads, kept, done}

-- ---- binding

module _ (ls ws ls' : List ℕ) (l : ℕ) (at : Place) (answered : ℕ) (p : (answered, ls') ≡ host_bind ls ws l at) where
  abbrev number_of_bind : ℕ
  number_of_bind = first (bind_tests ls ws l at) 0

  bind_coded : Coded number_of_bind
  bind_coded = first_coded (bind_tests ls ws l at) 0 (numbers (bind_tests ls ws l at) refl) tt

  pub bind_label_read : Reads answered (valued (λ u. pos 0) (bind_of ls ws l at).0)
  bind_label_read = reads (λ u. pos 0) number_of_bind bind_coded tt ls (set ls l (pos_of at + 1)) answered ls' p (λ z. omega arith)

  pub bind_label_refusal : Refusals answered
  bind_label_refusal = known answered (valued (λ u. pos 0) (bind_of ls ws l at).0) bind_label_read

  pub bind_label_kept : (refusal_in answered ≡ 0 → ⊥) → ls' ≡ ls
  bind_label_kept = kept (λ u. pos 0) number_of_bind bind_coded tt ls (set ls l (pos_of at + 1)) answered ls' p

  pub bind_label_bound : refusal_in answered ≡ 0 → ls' ≡ set ls l (pos_of at + 1)
  bind_label_bound z = (done (λ u. pos 0) number_of_bind bind_coded tt ls (set ls l (pos_of at + 1)) answered ls' p z).1

  pub bind_label_15 : (Aligned at → ⊥) → (answered ≡ 15) × (ls' ≡ ls)
  bind_label_15 o =
      let e : ◌≡◌ {A = ℕ × List ℕ} (answered, ls') (15, ls) = p ∙ ap (numbering (λ (u : Unit). pos 0)) (bind_15 at o ls ws l) in
      (ap (λ (z : ℕ × List ℕ). z.0) e, ap (λ (z : ℕ × List ℕ). z.1) e)

-- ---- a use

module _ (ls ws : List ℕ) (us us' : List Use) (n l : ℕ) (at : Place) (f answered : ℕ) (p : (answered, us') ≡ host_use ls ws us n l at f) where
  abbrev u : Use
  u = use_record l at f

  abbrev said : Said ℕ
  said = (use_of ls ws us n at u).0

  use_coded : Coded (number_of_use ls ws us n at u)
  use_coded = may_coded ls ws at u (names u.at (take n us)) (room_for (length us) (n + 1))

  pub use_label_read : Reads answered (valued pos said)
  use_label_read =
      reads pos (number_of_use ls ws us n at u) use_coded (n + 1) us (set us n u) answered us' p
      (λ z. omega (arith, room_below (length us) (n + 1) (may_room ls ws at u (names u.at (take n us)) (room_for (length us) (n + 1)) z)))

  pub use_label_refusal : Refusals answered
  use_label_refusal = known answered (valued pos said) use_label_read

  pub use_label_kept : (refusal_in answered ≡ 0 → ⊥) → us' ≡ us
  use_label_kept = kept pos (number_of_use ls ws us n at u) use_coded (n + 1) us (set us n u) answered us' p

  pub use_label_added : refusal_in answered ≡ 0 → (value_in answered ≡ pos (n + 1)) × (us' ≡ set us n u)
  use_label_added z =
      let d = done pos (number_of_use ls ws us n at u) use_coded (n + 1) us (set us n u) answered us' p z in
      let r = subst (λ (k : ℕ). Reads answered (valued pos (answer k (n + 1) us (set us n u)).0)) d.0 use_label_read in
      (r.1, d.1)

  pub use_label_15 : (Aligned at → ⊥) → (answered ≡ 15) × (us' ≡ us)
  use_label_15 o =
      let e : ◌≡◌ {A = ℕ × List Use} (answered, us') (15, us) = p ∙ ap (numbering pos) (use_15 at o ls ws us n u) in
      (ap (λ (z : ℕ × List Use). z.0) e, ap (λ (z : ℕ × List Use). z.1) e)

-- ---- finishing

module _ (ls ws ws' : List ℕ) (us : List Use) (n : ℕ) (at : Place) (answered : ℕ) (p : (answered, ws') ≡ host_finish ls ws us n at) where
  abbrev number : ℕ
  number = number_of_finish at ls ws us n

  abbrev new : List ℕ
  new = filled at ls ws (take n us)

  pub finish_labels_read : Reads answered (valued pos (finish_of at ls ws us n).0)
  finish_labels_read = reads pos number (finish_coded at ls ws us n) 0 ws new answered ws' p (λ z. omega arith)

  pub finish_labels_refusal : Refusals answered
  finish_labels_refusal = known answered (valued pos (finish_of at ls ws us n).0) finish_labels_read

  pub finish_labels_kept : (refusal_in answered ≡ 0 → ⊥) → ws' ≡ ws
  finish_labels_kept = kept pos number (finish_coded at ls ws us n) 0 ws new answered ws' p

  all_done : refusal_in answered ≡ 0 → finish_of at ls ws us n ≡ (ok 0, ws')
  all_done z =
      let d = done pos number (finish_coded at ls ws us n) 0 ws new answered ws' p z in
      ap (λ (r : ℕ). answer r 0 ws new) d.0 ∙ ap (λ (b : List ℕ). (ok 0, b)) (sym d.1)

  -- each used word is what module 7's target entry gives, and every other word is as before
  pub finish_labels_finished : refusal_in answered ≡ 0 → Finished at ls ws ws' (take n us)
  finish_labels_finished z = (finished at ls ws us n 0 ws' (all_done z)).1

  -- by Arm's reading the i-th use's word arrives at its label, at format 4 at the label's page
  module _ (i : ℕ) (m : i < n) where
    abbrev item : Use
    item = get_or us i none

    pub finish_labels_arrives : refusal_in answered ≡ 0
        → (page_of item.format (address_of (place_at (base_of at) item.at)) + offset item.format (get_or ws' item.at 0)) % 2 ^ 64
        ≡ page_of item.format (address_of (place_at (base_of at) (target ls item)))
    finish_labels_arrives z = finish_arrives at ls ws us n 0 ws' (all_done z) i m

  pub finish_labels_15 : (Aligned at → ⊥) → (answered ≡ 15) × (ws' ≡ ws)
  finish_labels_15 o =
      let e : ◌≡◌ {A = ℕ × List ℕ} (answered, ws') (15, ws) = p ∙ ap (numbering pos) (finish_15 at o ls ws us n) in
      (ap (λ (z : ℕ × List ℕ). z.0) e, ap (λ (z : ℕ × List ℕ). z.1) e)
