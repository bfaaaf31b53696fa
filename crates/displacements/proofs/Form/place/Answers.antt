-- What is left of `displacements::Form::place`. Assumes nothing.
use Rattle.std.proofs.Common.{◌≡◌, ℕ, ◌+◌, ◌-◌, ◌*◌, ◌/◌, ◌%◌, ◌^◌, min, [], ◌∷◌, ℤ, sym, ap, ◌∙◌, arith, to_z-of_z, w64, SFits, of_z, to_z, rules}
use Rattle.words.specs.Said.{ok}
use Rattle.words.specs.Listed.{packed}
use Rattle.words.proofs.Low.{one_up, least_below}
use Rattle.displacements.specs.Forms.{Form, put_in, step}
use Rattle.displacements.specs.Answer.{steps_of}
use Rattle.displacements.specs.Private.{Sound}
use Rattle.displacements.specs.Shape.{shape}
use Rattle.displacements.specs.Says.{OnStep}
use Rattle.displacements.proofs.Answers.{range_far, range_near, place_taken, place_off, place_far, place_word}
use Rattle.displacements.proofs.Distances.{steps_bits, bits_steps, in_reach, out_of_reach}
use Rattle.displacements.proofs.Form.place.Goals as goal

-- bits moved up by the reach
abbrev moved : Form → ℕ → ℕ
moved f x = (x + 1 * 2 ^ (f.bits + f.scale - 1) % 2 ^ 64) % 2 ^ 64

-- of a distance that is an i64, and its bits as `bits_of` gives them
module _ (f : Form) (s : Sound f) (d : ℤ) (fits : SFits w64 d) (x : ℕ) (e : x ≡ of_z w64 (to_z w64 (of_z w64 d))) where
  bits : x ≡ of_z w64 d
  bits = rw (to_z-of_z fits) at e

  -- those below the step
  low : (y : ℕ) → y ≡ x % 2 ^ min f.scale 64 → y ≡ of_z w64 d % step f
  low y q = rw (bits, least_below {n = f.scale} (omega (arith, s.narrow))) at q

  on : (y : ℕ) → y ≡ x % 2 ^ min f.scale 64 → y ≡ 0 → OnStep f d
  on y q z = bits_steps f.scale (omega (arith, s.narrow)) d fits (sym (low y q) ∙ z)

  off : (y : ℕ) → y ≡ x % 2 ^ min f.scale 64 → (y ≡ 0 → ⊥) → OnStep f d → ⊥
  off y q h o = h (low y q ∙ steps_bits f.scale (omega (arith, s.narrow)) d o)

  sum : moved f x ≡ (of_z w64 d + 2 ^ (f.bits + f.scale - 1)) % 2 ^ 64
  sum = rw (bits, one_up (f.bits + f.scale - 1) (omega (arith, s.narrow)))

  -- the steps, as the field takes them
  steps : (y : ℕ) → y ≡ x / 2 ^ f.scale % 2 ^ min f.bits 64 → y ≡ steps_of f d
  steps y q = rw (bits, least_below {n = f.bits} (omega (arith, s.narrow))) at q

pub returns-then-field_of-ne0 : goal.returns-then-field_of-ne0
returns-then-field_of-ne0 c = sym (ap packed (place_taken (shape c.args.self) c.args.base.0 c.args.distance.0 (λ e. c.if-field_of-ne0.true (c.field_of.ensures ∙ e))))

pub returns-then-low_bits-ne0 : goal.returns-then-low_bits-ne0
returns-then-low_bits-ne0 c =
    let a = c.args in
    let free = sym c.field_of.ensures ∙ c.if-field_of-ne0.false in
    sym (ap packed (place_off (shape a.self) a.base.0 a.distance.0 free (off (shape a.self) c.args.self.sound a.distance.0 (search rules) c.bits_of-x.result c.bits_of-x.ensures c.low_bits.result c.low_bits.ensures c.if-low_bits-ne0.true)))

pub returns-then-x-width-ne0 : goal.returns-then-x-width-ne0
returns-then-x-width-ne0 c =
    let f = shape c.args.self in
    let d = c.args.distance.0 in
    let fits : SFits w64 d = search rules in
    let free = sym c.field_of.ensures ∙ c.if-field_of-ne0.false in
    let o = on f c.args.self.sound d fits c.bits_of-x.result c.bits_of-x.ensures c.low_bits.result c.low_bits.ensures c.if-low_bits-ne0.false in
    let y = moved f c.bits_of-x.result in
    let s = sum f c.args.self.sound d fits c.bits_of-x.result c.bits_of-x.ensures in
    let out = out_of_reach (f.bits + f.scale) (omega (arith, c.args.self.sound.some)) c.args.self.sound.narrow d fits y s c.if-x-width-ne0.true in
    sym (ap packed (place_far f c.args.base.0 d free o (range_far f d out)))

pub returns : goal.returns
returns c =
    let f = shape c.args.self in
    let b = c.args.base.0 in
    let d = c.args.distance.0 in
    let fits : SFits w64 d = search rules in
    let free = sym c.field_of.ensures ∙ c.if-field_of-ne0.false in
    let o = on f c.args.self.sound d fits c.bits_of-x.result c.bits_of-x.ensures c.low_bits.result c.low_bits.ensures c.if-low_bits-ne0.false in
    let y = moved f c.bits_of-x.result in
    let s = sum f c.args.self.sound d fits c.bits_of-x.result c.bits_of-x.ensures in
    let near = in_reach (f.bits + f.scale) (omega (arith, c.args.self.sound.some)) c.args.self.sound.narrow d fits y s c.if-x-width-ne0.false in
    let word = c.put_field-w.ensures ∙ ap (put_in f b) (steps f c.args.self.sound d fits c.bits_of-x.result c.bits_of-x.ensures c.low_bits-2.result c.low_bits-2.ensures) in
    ap ok c.one.ensures ∙ ap (λ (w : ℕ). packed (ok (w ∷ []))) word ∙ sym (ap packed (place_word f b d free o (range_near f c.args.self.sound d o near)))
