-- What is left of `displacements::Form::clear_field`: what is taken out is what the field holds. Assumes nothing.
use Rattle.std.proofs.Common.{ap, ◌∙◌}
use Rattle.displacements.specs.Shape.{shape}
use Rattle.displacements.specs.Forms.{put_in}
use Rattle.displacements.proofs.Laws.{field_lt}
use Rattle.displacements.proofs.Cleared.{held_le, none_in_zero}
use Rattle.displacements.proofs.Form.clear_field.Goals as goal

pub put_field-held-requires : goal.put_field-held-requires
put_field-held-requires c = (none_in_zero (shape c.args.self), rw c.field_of.ensures (field_lt (shape c.args.self) c.args.self.sound c.args.w.0))

pub overflow_sub-result : goal.overflow_sub-result
overflow_sub-result c =
    let held = c.put_field-held.ensures ∙ ap (put_in (shape c.args.self) 0) c.field_of.ensures in
    rw held (held_le (shape c.args.self) c.args.self.sound c.args.w.0)
