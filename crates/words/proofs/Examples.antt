-- Worked values: addresses of words, and places further on. Assumes nothing.
use Rattle.std.proofs.Common.{◌-◌, ◌^◌, [], ◌∷◌, refl}
use Rattle.arm.proofs.Worked.{Worked}
use Rattle.words.specs.Place.{place_at, on, address_of}

pub addresses_right :
    Worked
    ((address_of (place_at 0 0), 0)
    ∷ (address_of (place_at 0 3), 12)
    ∷ (address_of (place_at 0x1000 3), 0x100C)
    ∷ (address_of (place_at 0xFFFFFFFFFFFFFFFC 0), 0xFFFFFFFFFFFFFFFC)
    ∷ (address_of (place_at 0xFFFFFFFFFFFFFFFC 1), 0)  -- over the end of the addresses
    ∷ (address_of (place_at 0xFFFFFFFFFFFFFFFC 3), 8)
    ∷ (address_of (place_at 8 (2 ^ 62)), 8)  -- four times the position is a whole turn
    ∷ (address_of (place_at 0 (2 ^ 64 - 1)), 0xFFFFFFFFFFFFFFFC)
    ∷ (address_of (place_at 2 1), 6)  -- any base has one
    ∷ (address_of (on (place_at 0x1000 3) 2), 0x1014)
    ∷ [])
addresses_right = refl
