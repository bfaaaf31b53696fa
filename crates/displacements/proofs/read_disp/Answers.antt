-- What is left of `displacements::read_disp`: the bits read are Arm's. Assumes nothing.
use Rattle.std.proofs.Common.{◌<◌, ℤ, ap, ◌∙◌, to_z-of_z, w64, to_z, le-ltb, arith}
use Rattle.words.specs.Said.{ok}
use Rattle.forms.proofs.Formats.{number_below}
use Rattle.displacements.specs.Forms.{Form, form_of}
use Rattle.displacements.specs.Private.{offset_in}
use Rattle.displacements.proofs.Laws.{arm_reads}
use Rattle.displacements.proofs.read_disp.Goals as goal

pub returns : goal.returns
returns c =
    let a = c.args in
    let known : a.format < 6 = rw (← c.in_ok-try_from.ensures) (number_below c.in_ok-try_from.field-0) in
    let form = c.of.ensures ∙ ap form_of c.in_ok-try_from.ensures in
    let read = c.offset_of-offset.ensures ∙ ap (λ (f : Form). offset_in f a.word.0) form ∙ arm_reads a.word.0 a.format known in
    simp (le-ltb 5 a.format (omega (arith, known))) (ap (λ (z : ℤ). ok z) (to_z-of_z {w = w64} (record { sfits = c.signed_of.type_inv }) ∙ c.signed_of.ensures ∙ ap (to_z w64) read))
