-- The numbers by which calls answer are 0 or a refusal's, and what a number of 0 says of the room. Assumes nothing.
use mathlib.Core.Path.{◌≡◌, refl, sym, ap}
use mathlib.Core.Bool.{Bool, true}
use mathlib.Core.List.{List, [], ◌∷◌, ◌++◌}
use Prim.Native.Nat.{ℕ, zero, suc, ◌+◌, ◌≤◌, min}
use native.Mathlib.Nat.{zero-min, min-zero, suc-min-suc}
use lib.ListN.{length, get_or, set, take}
use Rattle.words.specs.Said.{Said, ok, no}
use Rattle.words.specs.Answer.{IsNumber}
use Rattle.words.specs.Place.{pos_of}
use Rattle.words.specs.declared.Place.{Place}
use Rattle.words.proofs.Answers.{Numbered}
use Rattle.labels.specs.declared.Use.{Use}
use Rattle.labels.specs.Order.{first}
use Rattle.labels.specs.Sheet.{room_for, names, bind_tests, bind_of, use_tests, use_refusal, use_of, made_of, number_in, word_tests, word_number, check_of, filled, finish_tests, finish_of}
use Rattle.labels.proofs.Tests.{Coded, coded, Numbers, numbers, first_passed, first_coded, or_coded, answer_number}
use Rattle.labels.proofs.Finishing.{word_numbers, made_numbered, finish_numbers, room_in, number_of_finish, number_of_use}

-- ---- binding

pub bind_number : (ls ws : List ℕ) (l : ℕ) (at : Place) (k : ℕ) (ls' : List ℕ) → bind_of ls ws l at ≡ (no k, ls') → IsNumber k
bind_number ls ws l at k ls' h =
    let ts = bind_tests ls ws l at in
    answer_number tt ls (set ls l (pos_of at + 1)) (first ts 0) k ls' (first_coded ts 0 (numbers ts refl) tt) (sym h)

-- ---- a use

-- a count above the sheet counts as the sheet's
pub take_least : (n : ℕ) (us : List Use) → take n us ≡ take (min n (length us)) us
take_least zero us = rw (zero-min (length us))
take_least (suc n) [] = rw (min-zero (suc n))
take_least (suc n) (u ∷ us) = rw (suc-min-suc n (length us)) (ap (λ (t : List Use). u ∷ t) (take_least n us))

module _ (ls ws : List ℕ) (at : Place) (u : Use) where
  pub use_numbers : (again room : Bool) → Numbers (use_tests ls ws at u again room)
  use_numbers again room = numbers (use_tests ls ws at u again room) refl

  -- a use that is taken had room
  pub may_room : (again room : Bool) → use_refusal ls ws at u again room ≡ 0 → room ≡ true
  unfolding use_refusal
  may_room again room h = (first_passed (use_tests ls ws at u again room) 0 (use_numbers again room) h).0.1.1.1.1.1.1.1.0

  pub may_coded : (again room : Bool) → Coded (use_refusal ls ws at u again room)
  unfolding use_refusal
  may_coded again room = first_coded (use_tests ls ws at u again room) 0 (use_numbers again room) tt

  pub use_number_lem : (us : List Use) (n k : ℕ) (us' : List Use) → use_of ls ws us n at u ≡ (no k, us') → IsNumber k
  use_number_lem us n k us' h =
      let c = may_coded (names u.at (take n us)) (room_for (length us) (n + 1)) in
      answer_number (n + 1) us (set us n u) (number_of_use ls ws us n at u) k us' c (sym h)

-- ---- finishing

number_coded : {A : Type 0} (x : Said A) → Numbered x → Coded (number_in x)
number_coded (ok a) h = tt
number_coded (no n) h = coded n h

module _ (at : Place) (ls ws : List ℕ) where
  pub word_coded : (again : Bool) (u : Use) → Coded (word_number at ls ws again u)
  unfolding word_number
  word_coded again u =
      let x = made_of at ls ws u in
      first_coded (word_tests ls ws again u) (number_in x) (word_numbers ls ws again u) (number_coded x (made_numbered at ls u (get_or ws u.at 0)))

  pub check_coded : (before us : List Use) → Coded (check_of at ls ws before us)
  check_coded before [] = tt
  check_coded before (u ∷ us) =
      let again = names u.at before in
      let next = before ++ (u ∷ []) in
      or_coded (word_number at ls ws again u) (check_of at ls ws next us) (word_coded again u) (check_coded next us)

  pub finish_coded : (us : List Use) (n : ℕ) → Coded (number_of_finish at ls ws us n)
  finish_coded us n =
      first_coded (finish_tests at (length us) n) (check_of at ls ws [] (take n us)) (finish_numbers at (length us) n) (check_coded [] (take n us))

  pub finish_number : (us : List Use) (n k : ℕ) (ws' : List ℕ) → finish_of at ls ws us n ≡ (no k, ws') → IsNumber k
  finish_number us n k ws' h = answer_number 0 ws (filled at ls ws (take n us)) (number_of_finish at ls ws us n) k ws' (finish_coded us n) (sym h)

-- what is tested before any use is looked at
module _ (at : Place) (there n : ℕ) where
  pub early_coded : Coded (first (finish_tests at there n) 0)
  early_coded = first_coded (finish_tests at there n) 0 (finish_numbers at there n) tt

  pub early_room : first (finish_tests at there n) 0 ≡ 0 → n ≤ there
  early_room h = room_in there n (first_passed (finish_tests at there n) 0 (finish_numbers at there n) h).0.1.0
