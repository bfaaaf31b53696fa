-- What `host::written` requires of the writer's answer in `host::put_with`. Assumes nothing.
use Rattle.host.proofs.Laws.{near}
use Rattle.host.proofs.put_with.Goals as goal

pub written-requires : goal.written-requires
written-requires c = near c.args.bytes.now c.args.at c.args.m c.put_bytes.result _ c.put_bytes.ensures
