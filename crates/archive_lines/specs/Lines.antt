-- The line of an item of an archive, part by part, and what writing it leaves. Assumes nothing.
use Rattle.std.specs.Prelude.{cond, List, [], ◌∷◌, ◌++◌, ℕ, ◌+◌, ◌-◌, ◌/◌, ◌%◌, ◌^◌, eqb, leb, ltb, length}
use Rattle.std.proofs.lemmas.List.Edits.{sets}
use Rattle.std.specs.Int.{w64}
use Rattle.std.proofs.Common.{of_z}
use Rattle.words.specs.Said.{Said, ok, no}
use Rattle.lines.specs.Text.{line_end}
use Rattle.lines.specs.Parts.{Part, text, number, word, bytes_of_all}
use Rattle.moves.specs.Moves.{mov_said}
use Rattle.wide_moves.specs.declared.WideMove.{WideMove}
use Rattle.items.specs.declared.Displacement.{Displacement}
use Rattle.items.specs.declared.LogicalWord.{LogicalWord}
use Rattle.items.specs.declared.Item.{Item}
use Rattle.items.specs.declared.Item.TheVariants.{Wide, Logical, Displaced, Unknown}
use Rattle.reader.specs.declared.Constant.{Constant}
use Rattle.archive_pieces.specs.declared.Told.{Told}
use Rattle.archive_pieces.specs.declared.Told.TheVariants.{Joined, Single}
use Rattle.archive_lines.specs.Texts.{constant_text, size_text, value_text, words_text, could_text, movk_text, halfword_text, place_text, and_text, orr_text, eor_text, ands_text, width_text, rn_text, rd_text, fields_text, space_text, length_text, not_normal_text, displacement_text, base_text, distance_text, minus_text, unknown_text}

abbrev pub size_of : ℕ → ℕ
size_of sf = cond (eqb sf 0) 32 64

-- "64-bit values in 16" hex digits
abbrev pub value_parts : ℕ → List Part
value_parts v = text value_text ∷ word (v / 2 ^ 32) ∷ word (v % 2 ^ 32) ∷ []

-- how many words module 5's move of the value has; where there is none, as many as there are
abbrev pub fewest_in : ℕ → Said (List ℕ) → ℕ
fewest_in n (ok ws) = length ws
fewest_in n (no r) = n

unfoldable pub fewest_of : Constant → ℕ
fewest_of c = fewest_in c.count (mov_said c.value c.rd)

abbrev pub could_parts : ℕ → ℕ → List Part
could_parts n count = cond (ltb n count) (text could_text ∷ number n ∷ []) []

abbrev pub constant_parts : Constant → List Part
constant_parts c =
    (text constant_text ∷ number c.rd ∷ [])
    ++ ((text size_text ∷ number (size_of c.sf) ∷ []) ++ (value_parts c.value ++ ((text words_text ∷ number c.count ∷ []) ++ could_parts (fewest_of c) c.count)))

-- a wide move by itself is a MOVK: any other one begins a constant (`lone-movk` of archive_pieces)
abbrev pub movk_parts : WideMove → List Part
movk_parts m =
    text movk_text ∷ number m.rd ∷ text size_text ∷ number (size_of m.sf) ∷ text halfword_text ∷ word m.imm16 ∷ text place_text ∷ number m.hw ∷ []

abbrev pub operation_text : ℕ → List ℕ
operation_text k = cond (eqb k 0) and_text (cond (eqb k 1) orr_text (cond (eqb k 2) eor_text ands_text))

abbrev pub operation_parts : ℕ → List Part
operation_parts k = text (operation_text k) ∷ []

abbrev pub fields_parts : LogicalWord → List Part
fields_parts l =
    text fields_text ∷ number l.n ∷ text space_text ∷ number l.s ∷ text space_text ∷ number l.r ∷ text length_text ∷ number l.length
    ∷ cond l.normal [] (text not_normal_text ∷ [])

abbrev pub logical_parts : LogicalWord → List Part
logical_parts l =
    operation_parts l.operation
    ++ (text width_text ∷ number l.width ∷ text rn_text ∷ number l.rn ∷ text rd_text ∷ number l.rd ∷ (value_parts l.value ++ fields_parts l))

-- a signed number by its 64 bits
abbrev pub distance_parts : ℕ → List Part
distance_parts b = cond (ltb b (2 ^ 63)) (text distance_text ∷ number b ∷ []) (text minus_text ∷ number (2 ^ 64 - b) ∷ [])

abbrev pub displacement_parts : Displacement → List Part
displacement_parts d = text displacement_text ∷ number d.format ∷ text base_text ∷ word d.base.0 ∷ distance_parts (of_z w64 d.distance.0)

abbrev pub item_parts : Item → List Part
item_parts (Wide m) = movk_parts m
item_parts (Logical l) = logical_parts l
item_parts (Displaced d) = displacement_parts d
item_parts (Unknown w) = text unknown_text ∷ word w.0 ∷ []

abbrev pub body_parts : Told → List Part
body_parts (Joined c at) = number at ∷ constant_parts c
body_parts (Single i at) = number at ∷ item_parts i

abbrev pub parts_of : Told → List Part
parts_of t = body_parts t ++ (text line_end ∷ [])

-- the place past the line, and the run with the line from the place on; where fewer than 320 bytes are left, the same place and run
unfoldable pub line_at : List ℕ → ℕ → List Part → ℕ × List ℕ
line_at o at ps = cond (leb (at + 320) (length o)) (at + length (bytes_of_all ps), sets o at (bytes_of_all ps)) (at, o)
