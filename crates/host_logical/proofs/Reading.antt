-- Four bytes of the one number are read apart. Assumes nothing.
use mathlib.Core.Path.{◌≡◌}
use Prim.Native.Nat.{ℕ, ◌+◌, ◌*◌, ◌/◌, ◌%◌, ◌^◌, ◌<◌}
use native.Mathlib.Omega.{arith}
use lib.IntN.{pos}
use Rattle.words.specs.Said.{ok}
use Rattle.host.specs.Number.{told}
use Rattle.host_logical.specs.Fields.{byte_in}

-- four bytes above the low byte are read apart; the lower three are all of the low 32 bits
pub record Bytes (n a b c d : ℕ) : Type 0 where
  pub first : byte_in 1 n ≡ a
  pub second : byte_in 2 n ≡ b
  pub third : byte_in 3 n ≡ c
  pub fourth : byte_in 4 n ≡ d
  pub three : n % 2 ^ 32 ≡ (c * 2 ^ 16 + b * 2 ^ 8 + a) * 2 ^ 8

pub told_bytes : (n a b c d : ℕ) → n ≡ told (ok (pos (d * 2 ^ 24 + c * 2 ^ 16 + b * 2 ^ 8 + a))) → a < 256 → b < 256 → c < 256 → d < 256 → Bytes n a b c d
told_bytes n a b c d e ha hb hc hd =
    let whole : n ≡ d * 4294967296 + c * 16777216 + b * 65536 + a * 256 = omega (arith, e) in
    let one : n / 256 ≡ d * 16777216 + c * 65536 + b * 256 + a = omega (arith, whole) in
    let two : n / 65536 ≡ d * 65536 + c * 256 + b = omega (arith, whole) in
    let three : n / 16777216 ≡ d * 256 + c = omega (arith, whole) in
    let four : n / 4294967296 ≡ d = omega (arith, whole) in
    record { first = rw one (omega arith); second = rw two (omega arith); third = rw three (omega arith); fourth = rw four (omega arith); three = omega (arith, whole) }
