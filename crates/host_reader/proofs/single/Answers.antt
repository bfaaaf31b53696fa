-- Goals of `host_reader::single`. Assumes nothing.
use Rattle.host_reader.proofs.Laws.{matched}
use Rattle.host_reader.proofs.single.Goals as goal

pub returns-in-Logical : goal.returns-in-Logical
returns-in-Logical c =
    matched c.args.numbers.now c.args.s c.logical.ensures c.in-Logical.is
