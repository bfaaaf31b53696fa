-- The entry of `size_ops::size_op_entry`, by the tables' rule. Assumes nothing.
use Rattle.std.proofs.Common.{◌≡◌, refl}
use denote.Enum.Declared.{tag_of}
use Rattle.simd.specs.declared.Kind.{Kind}
use Rattle.simd.specs.declared.Kind.TheVariants as kind
use Rattle.simd.specs.declared.Element.{Element}
use Rattle.simd.specs.declared.Element.TheVariants as element
use Rattle.simd.specs.contracts.Kind as Kinds
use Rattle.simd.specs.contracts.Element as Elements
use Rattle.simd.specs.Kinds.{kind_number, element_number}
use Rattle.simd.proofs.Laws.{kind_below, element_below}
use Rattle.size_ops.proofs.Tables.{rule}
use Rattle.size_ops.proofs.size_op_entry.Goals as goal

-- `as u32` gives a kind's number, and an element's
kind_cast : (k : Kind) → tag_of Kinds.the_type k ≡ kind_number k
kind_cast kind.Other = refl
kind_cast kind.Gp32 = refl
kind_cast kind.Gp64 = refl
kind_cast kind.Vec8 = refl
kind_cast kind.Vec16 = refl
kind_cast kind.Vec32 = refl
kind_cast kind.Vec64 = refl
kind_cast kind.Vec128 = refl

element_cast : (e : Element) → tag_of Elements.the_type e ≡ element_number e
element_cast element.None = refl
element_cast element.B = refl
element_cast element.H = refl
element_cast element.S = refl
element_cast element.D = refl
element_cast element.Other5 = refl
element_cast element.Other6 = refl
element_cast element.Other7 = refl

pub returns : goal.returns
returns c =
    let a = c.args in
    rw (kind_cast a.kind, element_cast a.element) (rule a.table (kind_number a.kind) (element_number a.element) c.requires (kind_below a.kind) (element_below a.element))
