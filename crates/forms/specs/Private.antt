-- What only the contracts of private functions cite. Assumes nothing.
use Rattle.std.specs.Prelude.{List, [], ◌∷◌, ℕ, get_or}
use Rattle.forms.specs.declared.Fixed.{Fixed}

-- a format's fixed bits, under one mask or another; under the mask 0 no word has the bits 1
abbrev pub none : Fixed
none = record { mask = 0; bits = 1; mask2 = 0; bits2 = 1 }

abbrev pub fixeds : List Fixed
fixeds =
    record { mask = 0x7C000000; bits = 0x14000000; mask2 = 0x7C000000; bits2 = 0x14000000 }
    ∷ record { mask = 0xFF000010; bits = 0x54000000; mask2 = 0x7E000000; bits2 = 0x34000000 }
    ∷ record { mask = 0x7E000000; bits = 0x36000000; mask2 = 0x7E000000; bits2 = 0x36000000 }
    ∷ record { mask = 0x9F000000; bits = 0x10000000; mask2 = 0x9F000000; bits2 = 0x10000000 }
    ∷ record { mask = 0x9F000000; bits = 0x90000000; mask2 = 0x9F000000; bits2 = 0x90000000 }
    ∷ record { mask = 0x3B000000; bits = 0x18000000; mask2 = 0x3B000000; bits2 = 0x18000000 }
    ∷ []

abbrev pub fixed_of : ℕ → Fixed
fixed_of n = get_or fixeds n none
