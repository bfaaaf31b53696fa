-- What is left of `displacements::Form::put_field`: the sum is the word with the field put in, which has 32 bits. Assumes nothing.
use Rattle.std.proofs.Common.{arith, rules}
use Rattle.displacements.specs.Shape.{shape}
use Rattle.displacements.proofs.Laws.{put_made, put_fits}
use Rattle.displacements.proofs.Form.put_field.Goals as goal

pub overflow_add-w-2 : goal.overflow_add-w-2
overflow_add-w-2 c =
    let a = c.args in
    let small = put_fits (shape a.self) a.self.sound a.base.0 a.v c.requires.0 c.requires.1 (search rules) in
    record { fits = omega (arith, put_made (shape a.self) a.self.sound a.base.0 a.v c.low_bits.result c.requires.1 c.low_bits.ensures, small) }

pub overflow_cast-w-3 : goal.overflow_cast-w-3
overflow_cast-w-3 c =
    let a = c.args in
    let small = put_fits (shape a.self) a.self.sound a.base.0 a.v c.requires.0 c.requires.1 (search rules) in
    record { fits = omega (arith, put_made (shape a.self) a.self.sound a.base.0 a.v c.low_bits.result c.requires.1 c.low_bits.ensures, small) }
