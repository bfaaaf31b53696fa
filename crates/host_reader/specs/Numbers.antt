-- What the entry that reads words back answers and writes. Assumes nothing.
use Rattle.std.specs.Prelude.{cond, List, [], ◌∷◌, ℕ, ◌+◌, ◌*◌, ltb, ℤ, pos, length, Result, Ok, Err}
use Rattle.std.proofs.lemmas.List.Edits.{sets}
use Rattle.std.specs.Int.{w64}
use Rattle.std.proofs.Common.{of_z}
use Rattle.words.specs.Said.{Said, ok, no}
use Rattle.words.specs.Answer.{number_of}
use Rattle.words.specs.declared.Refusal.{Refusal}
use Rattle.items.specs.declared.Item.{Item}
use Rattle.items.specs.declared.Item.TheVariants as item
use Rattle.reader.specs.declared.Found.{Found}
use Rattle.reader.specs.declared.Found.TheVariants.{Joined, Single, End}
use Rattle.reader.specs.declared.Span.{Span}
use Rattle.reader.specs.Found.{found_of}
use Rattle.host.specs.Number.{told}

-- ---- the kinds: 0 the end of the run, 1 a constant, 2 a lone MOVK, 3 a logical immediate, 4 a displacement, 5 an unknown word

abbrev pub item_kind : Item → ℕ
item_kind (item.Wide m) = 2
item_kind (item.Logical l) = 3
item_kind (item.Displaced d) = 4
item_kind (item.Unknown w) = 5

abbrev pub kind_of : Result Found Refusal → Said ℤ
kind_of (Ok (Joined c s)) = ok (pos 1)
kind_of (Ok (Single i s)) = ok (pos (item_kind i))
kind_of (Ok End) = ok (pos 0)
kind_of (Err r) = no (number_of r)

-- ---- the numbers of each kind; `next`, the position after the item, is the first

-- 32 where sf is 0, 64 where it is 1
abbrev pub size_of : ℕ → ℕ
size_of sf = 32 + sf * 32

-- a lone MOVK: next, register, size, halfword, place
-- a logical immediate: next, operation, width, rn, rd, value, N, S, R, element length, normal (1 or 0)
-- a displacement: next, format, base, distance (its 64 bits)
-- an unknown word: next, word, position
abbrev pub item_numbers : Item → Span → List ℕ
item_numbers (item.Wide m) s = s.next.0 ∷ m.rd ∷ size_of m.sf ∷ m.imm16 ∷ m.hw ∷ []
item_numbers (item.Logical l) s =
    s.next.0 ∷ l.operation ∷ l.width ∷ l.rn ∷ l.rd ∷ l.value ∷ l.n ∷ l.s ∷ l.r ∷ l.length ∷ cond l.normal 1 0 ∷ []
item_numbers (item.Displaced d) s = s.next.0 ∷ d.format ∷ d.base.0 ∷ of_z w64 d.distance.0 ∷ []
item_numbers (item.Unknown w) s = s.next.0 ∷ w.0 ∷ s.at.0 ∷ []

-- a constant: next, register, size, value, words; the end of the run and a refusal have none
abbrev pub number_list : Result Found Refusal → List ℕ
number_list (Ok (Joined c s)) = s.next.0 ∷ c.rd ∷ size_of c.sf ∷ c.value ∷ c.count ∷ []
number_list (Ok (Single i s)) = item_numbers i s
number_list (Ok End) = []
number_list (Err r) = []

-- ---- the entry

-- the kind, and the lent numbers with those of what was found from the first on
abbrev pub host_found : List ℕ → Result Found Refusal → ℕ × List ℕ
host_found ns f = (told (kind_of f), sets ns 0 (number_list f))

-- 8 where fewer than eleven numbers are lent, which is the most that an item has
abbrev pub host_read : List ℕ → ℕ → List ℕ → ℕ × List ℕ
host_read ws at ns = cond (ltb (length ns) 11) (told (no 8), ns) (host_found ns (found_of ws at))
