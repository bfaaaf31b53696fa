-- Goals of `reader::join`. Assumes nothing.
use mathlib.Core.Path.{refl}
use native.Mathlib.Omega.{arith}
use Rattle.items.proofs.Cases.{wide_back}
use Rattle.reader.proofs.Joins.{fields_small, behind_length, first_ones, joins, joined_within}
use Rattle.reader.proofs.join.Goals as goal

pub first_value-requires : goal.first_value-requires
first_value-requires c = fields_small _ (wide_back _ c.requires.read)

pub go_on-c-requires : goal.go_on-c-requires
go_on-c-requires c =
    let o = first_ones c.requires c.first_value.ensures in
    (o.0, o.1, omega (arith, c.requires.inside, behind_length c.requires))

pub overflow_add-at-2 : goal.overflow_add-at-2
overflow_add-at-2 c = omega (arith, joined_within c.requires _ c.go_on-c.ensures refl)

pub returns : goal.returns
returns c = joins c.requires c.first_value.ensures c.go_on-c.ensures c.from_to.ensures
