-- What is left of `displacements::Form::offset_of`: the field, times the step, and the same with its top bit copied up. Assumes nothing.
use Rattle.std.proofs.Common.{◌+◌, ◌*◌, ◌∙◌, arith}
use Rattle.arm.proofs.SignExtends.{low_half, high_half}
use Rattle.words.proofs.Low.{one_up}
use Rattle.displacements.specs.Shape.{shape}
use Rattle.displacements.specs.Forms.{field_in, step}
use Rattle.displacements.proofs.Laws.{offset_made, offset_lt}
use Rattle.displacements.proofs.Form.offset_of.Goals as goal

pub overflow_sub-result-else-v-width-eq0 : goal.overflow_sub-result-else-v-width-eq0
overflow_sub-result-else-v-width-eq0 c =
    let f = shape c.args.self in
    rw (one_up (f.bits + f.scale) (omega (arith, c.args.self.sound.narrow)), offset_made f c.args.self.sound c.args.w.0 c.field_of.result c.field_of.ensures)
    (omega (arith, offset_lt f c.args.self.sound c.args.w.0))

pub returns-then-v-width-eq0 : goal.returns-then-v-width-eq0
returns-then-v-width-eq0 c =
    let f = shape c.args.self in
    let made = offset_made f c.args.self.sound c.args.w.0 c.field_of.result c.field_of.ensures in
    made ∙ low_half (f.bits + f.scale) (field_in f c.args.w.0 * step f) (rw made at c.if-v-width-eq0.true)

pub returns-else-v-width-eq0 : goal.returns-else-v-width-eq0
returns-else-v-width-eq0 c =
    let f = shape c.args.self in
    let made = offset_made f c.args.self.sound c.args.w.0 c.field_of.result c.field_of.ensures in
    rw (one_up (f.bits + f.scale) (omega (arith, c.args.self.sound.narrow)), made)
    (high_half (f.bits + f.scale) (field_in f c.args.w.0 * step f) (omega (arith, c.args.self.sound.narrow)) (offset_lt f c.args.self.sound c.args.w.0) (rw made at c.if-v-width-eq0.false))
