-- Goals of `reader::first_value`. Assumes nothing.
use Rattle.reader.proofs.Joins.{first_le}
use Rattle.reader.proofs.first_value.Goals as goal

pub overflow_sub-result : goal.overflow_sub-result
overflow_sub-result c = first_le c.args.m c.insert-x.ensures c.requires c.top.ensures
