-- A finished word is the one that module 7's target entry writes at its place. Assumes nothing.
use mathlib.Core.Path.{◌≡◌}
use mathlib.Core.List.{List, [], ◌∷◌}
use Prim.Native.Nat.{ℕ, ◌+◌, ◌<◌, ◌≤◌}
use native.Mathlib.Omega.{arith}
use lib.ListN.{length, get_or, set}
use Rattle.words.specs.Said.{ok}
use Rattle.words.specs.Place.{base_of, place_at, address_of}
use Rattle.words.specs.declared.Place.{Place}
use Rattle.writers.specs.Put.{put_of}
use Rattle.writers.specs.Says.{done}
use Rattle.writers.proofs.Writes.{put_answers}
use Rattle.disp_targets.specs.Target.{target_said}
use Rattle.labels.specs.declared.Use.{Use}
use Rattle.labels.specs.Sheet.{none, target, made_from, finish_of}
use Rattle.labels.proofs.Finishing.{finish_aligned, finished_inside, finished_at}

module _ (at : Place) (ls ws : List ℕ) (us : List Use) (n k : ℕ) (ws' : List ℕ) (h : finish_of at ls ws us n ≡ (ok k, ws')) (i : ℕ) (m : i < n) where
  abbrev u : Use
  u = get_or us i none

  -- the places of the word and of its label
  abbrev from : Place
  from = place_at (base_of at) u.at

  abbrev to : Place
  to = place_at (base_of at) (target ls u)

  -- over the run as it was before the finish
  pub target_entry : put_of ws from (target_said u.format (get_or ws u.at 0) (address_of to) (address_of from))
      ≡ (ok (place_at (base_of at) (u.at + 1)), set ws u.at (get_or ws' u.at 0))
  unfolding made_from
  target_entry =
      let room : u.at + 1 ≤ length ws = omega (arith, finished_inside at ls ws us n k ws' h i m) in
      put_answers ws from (target_said u.format (get_or ws u.at 0) (address_of to) (address_of from))
      (done (get_or ws' u.at 0 ∷ []) (finish_aligned at ls ws us n k ws' h) (finished_at at ls ws us n k ws' h i m) room)
