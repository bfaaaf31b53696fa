-- The one number that every entry of the host answers, and how it is read. Assumes nothing.
use Rattle.std.specs.Prelude.{◌≡◌, Bool, cond, List, ℕ, ◌+◌, ◌-◌, ◌*◌, ◌/◌, ◌%◌, ◌^◌, ℤ, pos, get_or}
use Rattle.std.proofs.Math.Option.{Option, some, none}
use Rattle.std.proofs.Math.Seq.{slice}
use Rattle.std.specs.Int.{w64}
use Rattle.std.proofs.Common.{to_z, of_z}
use Rattle.arm.specs.Bits.{SignExtend}
use Rattle.words.specs.Said.{Said, ok, no}
use Rattle.words.specs.Answer.{IsNumber}
use Rattle.words.specs.Place.{pos_of}
use Rattle.words.specs.declared.Place.{Place}
use Rattle.words.specs.declared.Words.{Words}
use Rattle.writers.specs.Put.{words_in, put_bytes_of}
use Rattle.disp_targets.specs.Target.{carried, put_to}

-- the value above the low byte, modulo 2 ^ 64; or a refusal's number, which is all of it
abbrev pub told : Said ℤ → ℕ
told (ok v) = of_z w64 v * 2 ^ 8 % 2 ^ 64
told (no n) = n

-- as a host reads it: the low byte, and the 56 bits above it as a signed number
abbrev pub refusal_in : ℕ → ℕ
refusal_in x = x % 2 ^ 8

abbrev pub value_in : ℕ → ℤ
value_in x = to_z w64 (SignExtend 56 (x / 2 ^ 8))

-- a host reads from x what was said: a value, and no refusal; or a refusal's number, and the value 0
abbrev pub Reads : ℕ → Said ℤ → Type 0
Reads x (ok v) = (refusal_in x ≡ 0) × (value_in x ≡ v)
Reads x (no n) = IsNumber n × (refusal_in x ≡ n) × (value_in x ≡ pos 0)

-- ---- the values

-- of a writer from a place on: how many words were written
abbrev pub counted : Place → Said Place → Said ℤ
counted at (ok p) = ok (pos (pos_of p - pos_of at))
counted at (no n) = no n

-- the number of what a writer says, and the bytes as they then are
abbrev pub host_of : Place → Said Place × List ℕ → ℕ × List ℕ
host_of at (x, bs) = (told (counted at x), bs)

-- words asked for at a place of a run of bytes
abbrev pub host_put : List ℕ → Place → Said (List ℕ) → ℕ × List ℕ
host_put bs at x = host_of at (put_bytes_of bs at x)

-- of the target entry: the same, and 256 times the low bits that are carried, which are 0 where none are
abbrev pub low_bits : Option ℕ → ℕ
low_bits none = 0
low_bits (some l) = l

abbrev pub counted_to : Place → Said (Place × Option ℕ) → Said ℤ
counted_to at (ok (p, l)) = ok (pos (pos_of p - pos_of at + low_bits l * 2 ^ 8))
counted_to at (no n) = no n

abbrev pub host_to_of : Place → Said (Place × Option ℕ) × List ℕ → ℕ × List ℕ
host_to_of at (x, bs) = (told (counted_to at x), bs)

abbrev pub host_put_to : List ℕ → Place → Option ℕ → Said (List ℕ) → ℕ × List ℕ
host_put_to bs at l x = host_to_of at (carried l (put_bytes_of bs at x))

-- of a target's word by value, or its refusal
abbrev pub host_target : List ℕ → Place → Said (Words × Option ℕ) → ℕ × List ℕ
host_target bs at s = host_to_of at (put_to (put_bytes_of bs at) s)

-- as a host reads them from an answer x without a refusal: bits 8 to 15 how many words were written, bits 16 to 27 the low bits
abbrev pub count_in : ℕ → ℕ
count_in x = x / 2 ^ 8 % 2 ^ 8

abbrev pub low_in : ℕ → ℕ
low_in x = x / 2 ^ 16 % 2 ^ 12

-- the words that a host finds in the bytes after a call: from the position on, as many as the answer x says
abbrev pub words_from : (x at : ℕ) → List ℕ → List ℕ
words_from x at bs = words_in (slice (at * 4) ((at + count_in x) * 4) bs)

-- the first of them
abbrev pub word_at : (x at : ℕ) → List ℕ → ℕ
word_at x at bs = get_or (words_from x at bs) 0 0

-- of a test: 1 for yes, 0 for no
abbrev pub yes_no : Said Bool → Said ℤ
yes_no (ok b) = ok (cond b (pos 1) (pos 0))
yes_no (no n) = no n
