-- The texts in the lines of an archive's items, each as its comment has it. Assumes nothing.
use Rattle.std.specs.Prelude.{List, [], ◌∷◌, ℕ}

-- ` constant register `
abbrev pub constant_text : List ℕ
constant_text = 32 ∷ 99 ∷ 111 ∷ 110 ∷ 115 ∷ 116 ∷ 97 ∷ 110 ∷ 116 ∷ 32 ∷ 114 ∷ 101 ∷ 103 ∷ 105 ∷ 115 ∷ 116 ∷ 101 ∷ 114 ∷ 32 ∷ []

-- ` size `
abbrev pub size_text : List ℕ
size_text = 32 ∷ 115 ∷ 105 ∷ 122 ∷ 101 ∷ 32 ∷ []

-- ` value `
abbrev pub value_text : List ℕ
value_text = 32 ∷ 118 ∷ 97 ∷ 108 ∷ 117 ∷ 101 ∷ 32 ∷ []

-- ` words `
abbrev pub words_text : List ℕ
words_text = 32 ∷ 119 ∷ 111 ∷ 114 ∷ 100 ∷ 115 ∷ 32 ∷ []

-- ` could be `
abbrev pub could_text : List ℕ
could_text = 32 ∷ 99 ∷ 111 ∷ 117 ∷ 108 ∷ 100 ∷ 32 ∷ 98 ∷ 101 ∷ 32 ∷ []

-- ` movk register `
abbrev pub movk_text : List ℕ
movk_text = 32 ∷ 109 ∷ 111 ∷ 118 ∷ 107 ∷ 32 ∷ 114 ∷ 101 ∷ 103 ∷ 105 ∷ 115 ∷ 116 ∷ 101 ∷ 114 ∷ 32 ∷ []

-- ` halfword `
abbrev pub halfword_text : List ℕ
halfword_text = 32 ∷ 104 ∷ 97 ∷ 108 ∷ 102 ∷ 119 ∷ 111 ∷ 114 ∷ 100 ∷ 32 ∷ []

-- ` place `
abbrev pub place_text : List ℕ
place_text = 32 ∷ 112 ∷ 108 ∷ 97 ∷ 99 ∷ 101 ∷ 32 ∷ []

-- ` logical and`
abbrev pub and_text : List ℕ
and_text = 32 ∷ 108 ∷ 111 ∷ 103 ∷ 105 ∷ 99 ∷ 97 ∷ 108 ∷ 32 ∷ 97 ∷ 110 ∷ 100 ∷ []

-- ` logical orr`
abbrev pub orr_text : List ℕ
orr_text = 32 ∷ 108 ∷ 111 ∷ 103 ∷ 105 ∷ 99 ∷ 97 ∷ 108 ∷ 32 ∷ 111 ∷ 114 ∷ 114 ∷ []

-- ` logical eor`
abbrev pub eor_text : List ℕ
eor_text = 32 ∷ 108 ∷ 111 ∷ 103 ∷ 105 ∷ 99 ∷ 97 ∷ 108 ∷ 32 ∷ 101 ∷ 111 ∷ 114 ∷ []

-- ` logical ands`
abbrev pub ands_text : List ℕ
ands_text = 32 ∷ 108 ∷ 111 ∷ 103 ∷ 105 ∷ 99 ∷ 97 ∷ 108 ∷ 32 ∷ 97 ∷ 110 ∷ 100 ∷ 115 ∷ []

-- ` width `
abbrev pub width_text : List ℕ
width_text = 32 ∷ 119 ∷ 105 ∷ 100 ∷ 116 ∷ 104 ∷ 32 ∷ []

-- ` rn `
abbrev pub rn_text : List ℕ
rn_text = 32 ∷ 114 ∷ 110 ∷ 32 ∷ []

-- ` rd `
abbrev pub rd_text : List ℕ
rd_text = 32 ∷ 114 ∷ 100 ∷ 32 ∷ []

-- ` fields `
abbrev pub fields_text : List ℕ
fields_text = 32 ∷ 102 ∷ 105 ∷ 101 ∷ 108 ∷ 100 ∷ 115 ∷ 32 ∷ []

-- ` `
abbrev pub space_text : List ℕ
space_text = 32 ∷ []

-- ` length `
abbrev pub length_text : List ℕ
length_text = 32 ∷ 108 ∷ 101 ∷ 110 ∷ 103 ∷ 116 ∷ 104 ∷ 32 ∷ []

-- ` not normal`
abbrev pub not_normal_text : List ℕ
not_normal_text = 32 ∷ 110 ∷ 111 ∷ 116 ∷ 32 ∷ 110 ∷ 111 ∷ 114 ∷ 109 ∷ 97 ∷ 108 ∷ []

-- ` displacement format `
abbrev pub displacement_text : List ℕ
displacement_text = 32 ∷ 100 ∷ 105 ∷ 115 ∷ 112 ∷ 108 ∷ 97 ∷ 99 ∷ 101 ∷ 109 ∷ 101 ∷ 110 ∷ 116 ∷ 32 ∷ 102 ∷ 111 ∷ 114 ∷ 109 ∷ 97 ∷ 116 ∷ 32 ∷ []

-- ` base `
abbrev pub base_text : List ℕ
base_text = 32 ∷ 98 ∷ 97 ∷ 115 ∷ 101 ∷ 32 ∷ []

-- ` distance `
abbrev pub distance_text : List ℕ
distance_text = 32 ∷ 100 ∷ 105 ∷ 115 ∷ 116 ∷ 97 ∷ 110 ∷ 99 ∷ 101 ∷ 32 ∷ []

-- ` distance -`
abbrev pub minus_text : List ℕ
minus_text = 32 ∷ 100 ∷ 105 ∷ 115 ∷ 116 ∷ 97 ∷ 110 ∷ 99 ∷ 101 ∷ 32 ∷ 45 ∷ []

-- ` unknown `
abbrev pub unknown_text : List ℕ
unknown_text = 32 ∷ 117 ∷ 110 ∷ 107 ∷ 110 ∷ 111 ∷ 119 ∷ 110 ∷ 32 ∷ []
