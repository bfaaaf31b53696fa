-- Request b of document 02: labels, uses and finishing. A label's entry in the table is 0 where it is unbound, and one more than its word position
-- where it is bound. The pending uses are the sheet's first ones, as many as the count says. Assumes nothing.
use Rattle.std.specs.Prelude.{Bool, true, false, cond, not, List, [], ◌∷◌, ◌++◌, map, ℕ, zero, suc, ◌+◌, ◌-◌, ◌%◌, eqb, ltb, leb, length, get_or, set, take}
use Rattle.words.specs.Said.{Said, ok, no}
use Rattle.words.specs.Answer.{number_of, refusal_of}
use Rattle.words.specs.Place.{place_at, base_of, pos_of, address_of}
use Rattle.words.specs.declared.Place.{Place}
use Rattle.forms.specs.Form.{is_of_form}
use Rattle.displacements.specs.Forms.{form_of, field_in}
use Rattle.disp_targets.specs.Target.{target_said}
use Rattle.labels.specs.declared.Use.{Use}
use Rattle.labels.specs.Limits.{label_limit, use_limit}
use Rattle.labels.specs.Order.{first, or_else, answer}
use Rattle.labels.specs.Puts.{puts}

-- "a multiple of 4"
unfoldable pub aligned : Place → Bool
aligned at = eqb (base_of at % 4) 0

-- "a label above 255", or one past the table that is lent, is none
unfoldable pub names_label : List ℕ → ℕ → Bool
names_label ls l = cond (ltb l label_limit) (ltb l (length ls)) false

-- so many uses are within the limit and the sheet
unfoldable pub room_for : ℕ → ℕ → Bool
room_for there n = cond (leb n use_limit) (leb n there) false

-- what is read past a sheet's end
abbrev pub none : Use
none = record { label = 0; at = 0; format = 0 }

-- "a word that an earlier pending use names"
abbrev pub names : ℕ → List Use → Bool
names k [] = false
names k (u ∷ us) = cond (eqb u.at k) true (names k us)

-- the tests of a base word at a format: 11, 6
abbrev pub base_tests : ℕ → ℕ → List (Bool × ℕ)
base_tests n w = (is_of_form n w, 11) ∷ (eqb (field_in (form_of n) w) 0, 6) ∷ []

-- ---- binding a label to a place: 15, 12, 13, 8 ("past the end; the end itself is allowed")

abbrev pub bind_tests : List ℕ → List ℕ → ℕ → Place → List (Bool × ℕ)
bind_tests ls ws l at = (aligned at, 15) ∷ (names_label ls l, 12) ∷ (eqb (get_or ls l 0) 0, 13) ∷ (leb (pos_of at) (length ws), 8) ∷ []

abbrev pub bind_of : List ℕ → List ℕ → ℕ → Place → Said Unit × List ℕ
bind_of ls ws l at = answer (first (bind_tests ls ws l at) 0) tt ls (set ls l (pos_of at + 1))

-- ---- a use of a label by the word at a place, at a format: 15, 7, 12, 8, 11, 6, 16, 14

abbrev pub use_record : ℕ → Place → ℕ → Use
use_record l at f = record { label = l; at = pos_of at; format = f }

-- `again` says that an earlier pending use names the word, and `room` that the sheet takes one more
abbrev pub use_tests : List ℕ → List ℕ → Place → Use → (again room : Bool) → List (Bool × ℕ)
use_tests ls ws at u again room =
    (aligned at, 15) ∷ (ltb u.format 6, 7) ∷ (names_label ls u.label, 12) ∷ (ltb u.at (length ws), 8)
    ∷ (base_tests u.format (get_or ws u.at 0) ++ ((not again, 16) ∷ (room, 14) ∷ []))

unfoldable pub use_refusal : List ℕ → List ℕ → Place → Use → (again room : Bool) → ℕ
use_refusal ls ws at u again room = first (use_tests ls ws at u again room) 0

-- the count after it, and the sheet
abbrev pub use_of : List ℕ → List ℕ → List Use → ℕ → Place → Use → Said ℕ × List Use
use_of ls ws us n at u = answer (use_refusal ls ws at u (names u.at (take n us)) (room_for (length us) (n + 1))) (n + 1) us (set us n u)

-- ---- finishing: 15, 14, then each use in sheet order: 7, 12, 8, 11, 6, 16, 4, 5

-- where a use's label is bound (for one that is)
unfoldable pub target : List ℕ → Use → ℕ
target ls u = get_or ls u.label 0 - 1

-- what module 7's target entry says of a use over its base word b; the addresses of word and label are those of their places, at the record's base
unfoldable pub made_from : Place → List ℕ → Use → ℕ → Said (List ℕ)
made_from at ls u b = target_said u.format b (address_of (place_at (base_of at) (target ls u))) (address_of (place_at (base_of at) u.at))

abbrev pub made_of : Place → List ℕ → List ℕ → Use → Said (List ℕ)
made_of at ls ws u = made_from at ls u (get_or ws u.at 0)

-- a refusal's number, 0 for none
abbrev pub number_in : {A : Type 0} → Said A → ℕ
number_in (ok a) = 0
number_in (no n) = n

-- the tests before module 7's own; "12 .. only at finishing, an unbound one", "8 (word or label)"
abbrev pub word_tests : List ℕ → List ℕ → (again : Bool) → Use → List (Bool × ℕ)
word_tests ls ws again u =
    (ltb u.format 6, 7) ∷ (names_label ls u.label, 12) ∷ (ltb 0 (get_or ls u.label 0), 12) ∷ (ltb u.at (length ws), 8)
    ∷ (leb (target ls u) (length ws), 8) ∷ (base_tests u.format (get_or ws u.at 0) ++ ((not again, 16) ∷ []))

-- why a use has no word, 0 where it has one
unfoldable pub word_number : Place → List ℕ → List ℕ → (again : Bool) → Use → ℕ
word_number at ls ws again u = first (word_tests ls ws again u) (number_in (made_of at ls ws u))

-- "the first refusal found", the uses before being those that passed
abbrev pub check_of : Place → List ℕ → List ℕ → (before uses : List Use) → ℕ
check_of at ls ws before [] = 0
check_of at ls ws before (u ∷ us) = or_else (word_number at ls ws (names u.at before) u) (check_of at ls ws (before ++ (u ∷ [])) us)

-- the word that is said, or the one that stands there
abbrev pub or_base : ℕ → Said (List ℕ) → ℕ
or_base b (ok vs) = get_or vs 0 0
or_base b (no n) = b

-- the word of a use over its base word
abbrev pub fixed_of : Place → List ℕ → Use → ℕ → ℕ
fixed_of at ls u b = or_base b (made_from at ls u b)

-- a use's position and its word, from the run as it is before any is written
abbrev pub pair_of : Place → List ℕ → List ℕ → Use → ℕ × ℕ
pair_of at ls ws u = (u.at, fixed_of at ls u (get_or ws u.at 0))

abbrev pub filled : Place → List ℕ → List ℕ → List Use → List ℕ
filled at ls ws us = puts ws (map (pair_of at ls ws) us)

-- "14 for a count above the sheet or the limit", before any use is looked at
abbrev pub finish_tests : Place → (there count : ℕ) → List (Bool × ℕ)
finish_tests at there n = (aligned at, 15) ∷ (room_for there n, 14) ∷ []

-- the count after it, "the sheet is empty", and the run
abbrev pub finish_of : Place → List ℕ → List ℕ → List Use → ℕ → Said ℕ × List ℕ
finish_of at ls ws us n = answer (first (finish_tests at (length us) n) (check_of at ls ws [] (take n us))) 0 ws (filled at ls ws (take n us))

-- ---- the answers say it

-- the answer of a call by its number
abbrev pub counted_of : ℕ → ℕ → Said ℕ
counted_of n zero = ok n
counted_of n (suc r) = no (number_of (refusal_of (suc r)))
