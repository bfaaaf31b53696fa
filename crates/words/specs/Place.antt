-- Places in code: a base address and a position in words. Assumes nothing.
use Rattle.std.specs.Prelude.{◌≡◌, ℕ, ◌+◌, ◌*◌, ◌%◌, ◌^◌}
use Rattle.words.specs.declared.Place.{Place}

-- the place of a base address and a position, by their numbers
abbrev pub place_at : (base position : ℕ) → Place
place_at b p = record { base = record { 0 = b }; position = record { 0 = p } }

-- the two numbers of a place
abbrev pub base_of : Place → ℕ
base_of at = at.base.0

abbrev pub pos_of : Place → ℕ
pos_of at = at.position.0

-- n words on, at the same base
abbrev pub on : Place → ℕ → Place
on at n = place_at (base_of at) (pos_of at + n)

-- "The address of a word is base plus four times the position, modulo 2^64"
abbrev pub address_of : Place → ℕ
address_of at = (base_of at + 4 * pos_of at) % 2 ^ 64

-- "a multiple of 4"
abbrev pub Aligned : Place → Type 0
Aligned at = base_of at % 4 ≡ 0
