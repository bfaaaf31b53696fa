-- A word whose field is cleared: nothing stands in the field, every other part is as before, and what stood there puts the word together again.
-- Assumes nothing.
use Rattle.std.proofs.Common.{◌≡◌, ℕ, ◌+◌, ◌-◌, ◌*◌, ◌/◌, ◌^◌, ◌<◌, ◌≤◌, sym, ap, ◌∙◌, mod-lt, zero-mul, arith, pow_pos}
use native.Mathlib.Nat.{mod-one, zero-div, zero-mod}
use lib.Arith.{digits_div, digits_mod}
use lib.ListN.{get_or-eq_default}
use Rattle.words.proofs.Fields.{part, part_below, part_above, part_le, taken_out}
use Rattle.forms.specs.Form.{is_of_form}
use Rattle.displacements.specs.Forms.{Form, forms, form_of, field_in, put_in, clear_in}
use Rattle.displacements.specs.Private.{Sound}
use Rattle.displacements.proofs.Laws.{sound, field_lt, Outside, put_there, put_kept}
use Rattle.displacements.proofs.Kept.{forms_kept}

-- ---- the field of a word

module _ (f : Form) (s : Sound f) (w : ℕ) where
  -- its two parts
  abbrev high : ℕ
  high = part f.at (f.bits - f.low) w

  abbrev low : ℕ
  low = part 29 f.low w

  low_lt : low < 2 ^ f.low
  low_lt = mod-lt (w / 2 ^ 29) (pow_pos f.low)

  high_lt : high < 2 ^ (f.bits - f.low)
  high_lt = mod-lt (w / 2 ^ f.at) (pow_pos (f.bits - f.low))

  -- what the field holds, where it stands
  held : put_in f 0 (field_in f w) ≡ high * 2 ^ f.at + low * 2 ^ 29
  held = rw (digits_div high low_lt, digits_mod high low_lt) (omega arith)

  -- the word without the low bits, and then without the rest
  abbrev bare : ℕ
  bare = w - low * 2 ^ 29

  bare_high : part f.at (f.bits - f.low) bare ≡ high
  bare_high =
      let back : bare + low * 2 ^ 29 ≡ w = omega (arith, part_le 29 f.low w) in
      sym (part_below 29 f.at (f.bits - f.low) bare low s.apart) ∙ ap (part f.at (f.bits - f.low)) back

  bare_le : high * 2 ^ f.at ≤ bare
  bare_le = rw (← bare_high) (part_le f.at (f.bits - f.low) bare)

  pub held_le : put_in f 0 (field_in f w) ≤ w
  held_le = rw held (omega (arith, bare_le, part_le 29 f.low w))

  clear_is : clear_in f w ≡ bare - high * 2 ^ f.at
  clear_is = rw held (omega arith)

  high_free : part f.at (f.bits - f.low) (clear_in f w) ≡ 0
  high_free = rw (clear_is, ← bare_high) (taken_out f.at (f.bits - f.low) bare)

  low_free : part 29 f.low (clear_in f w) ≡ 0
  low_free =
      let back : clear_in f w + high * 2 ^ f.at ≡ bare = rw clear_is (omega (arith, bare_le)) in
      sym (part_above f.at (f.bits - f.low) (clear_in f w) high high_free high_lt 29 f.low s.apart)
      ∙ ap (part 29 f.low) back ∙ taken_out 29 f.low w

  -- nothing stands in the field
  pub clear_free : field_in f (clear_in f w) ≡ 0
  clear_free = rw (high_free, low_free) (omega arith)

  -- what stood there puts the word together again
  pub put_back : put_in f (clear_in f w) (field_in f w) ≡ w
  put_back = rw (clear_is, digits_div high low_lt, digits_mod high low_lt) (omega (arith, bare_le, part_le 29 f.low w))

  -- every part outside the field is as before
  pub clear_kept : (q l : ℕ) → Outside f q l → part q l (clear_in f w) ≡ part q l w
  clear_kept q l o = sym (put_kept f s (clear_in f w) (field_in f w) clear_free (field_lt f s w) q l o) ∙ ap (part q l) put_back

-- a field that is clear stays so, and clearing what was put gives the word back
module _ (f : Form) (s : Sound f) (w : ℕ) (free : field_in f w ≡ 0) where
  pub clear_same : clear_in f w ≡ w
  clear_same = rw (free, zero-div (2 ^ f.low), zero-mod (2 ^ f.low)) (omega arith)

  pub clear_put : (v : ℕ) → v < 2 ^ f.bits → clear_in f (put_in f w v) ≡ w
  clear_put v h = rw (put_there f s w v free h) (omega arith)

-- the word 0 has nothing in any field
pub none_in_zero : (f : Form) → field_in f 0 ≡ 0
none_in_zero f = simp (zero-div (2 ^ f.at), zero-div (2 ^ 29), zero-mod (2 ^ (f.bits - f.low)), zero-mod (2 ^ f.low), zero-mul)

-- ---- by the formats' numbers

-- from 6 on there is no field, and nothing is cleared
pub no_field : (n w : ℕ) → 5 < n → clear_in (form_of n) w ≡ w
no_field n w h =
    ap (λ (f : Form). clear_in f w) (get_or-eq_default forms (record { scale = 0; bits = 0; low = 0; at = 0 }) {n = n} (omega arith))
    ∙ rw (mod-one (w / 2 ^ 0), mod-one (w / 2 ^ 29)) (omega arith)

module _ (n : ℕ) (h : n < 6) (w : ℕ) where
  -- the fixed bits are outside the field: the word stays of its form, or of none
  pub clear_form : is_of_form n (clear_in (form_of n) w) ≡ is_of_form n w
  clear_form = forms_kept (clear_in (form_of n) w) w n h (clear_kept (form_of n) (sound n h) w)
