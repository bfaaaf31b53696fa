-- When each thing is said: what the definitions of Put.antt are proved to mean, in both directions. Assumes nothing.
use Rattle.std.specs.Prelude.{◌≡◌, List, ℕ, ◌+◌, ◌*◌, ◌/◌, ◌≤◌, ◌<◌, length}
use Rattle.std.proofs.lemmas.List.Edits.{sets}
use Rattle.words.specs.Said.{Said, ok, no}
use Rattle.words.specs.Place.{pos_of, on, Aligned}
use Rattle.words.specs.declared.Place.{Place}
use Rattle.writers.specs.Put.{all_bytes}

-- of what is asked for at a place of a run that has room for so many words, where they stand, as `spell` has them, from `from` on: "15 is tested
-- first", then what is asked for may be refused, then there may be no room
pub data Says (room from : ℕ) (spell : List ℕ → List ℕ) (l : List ℕ) (at : Place) (x : Said (List ℕ)) : Said Place × List ℕ → Type 0 where
  unaligned : (Aligned at → ⊥) → Says room from spell l at x (no 15, l)
  refused : (n : ℕ) → Aligned at → x ≡ no n → Says room from spell l at x (no n, l)
  full : (vs : List ℕ) → Aligned at → x ≡ ok vs → room < pos_of at + length vs → Says room from spell l at x (no 8, l)
  done : (vs : List ℕ) → Aligned at → x ≡ ok vs → pos_of at + length vs ≤ room → Says room from spell l at x (ok (on at (length vs)), sets l from (spell vs))

-- in a run of words
abbrev pub Puts : List ℕ → Place → Said (List ℕ) → Said Place × List ℕ → Type 0
Puts l at = Says (length l) (pos_of at) (λ vs. vs) l at

-- in a run of bytes
abbrev pub PutsBytes : List ℕ → Place → Said (List ℕ) → Said Place × List ℕ → Type 0
PutsBytes l at = Says (length l / 4) (pos_of at * 4) all_bytes l at
