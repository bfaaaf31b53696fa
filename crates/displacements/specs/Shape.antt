-- The program's formats as the table's. Assumes nothing.
use Rattle.displacements.specs.Forms.{Form}
use Rattle.displacements.specs.declared.Form.{Form as Struct}

-- its four numbers
abbrev pub shape : Struct → Form
shape f = record { scale = f.scale; bits = f.bits; low = f.low; at = f.at }
