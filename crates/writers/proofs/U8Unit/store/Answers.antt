-- The four bytes of a word, copied over its place. Assumes nothing.
use Rattle.std.proofs.Common.{◌≡◌, ◌+◌, ◌-◌, ◌*◌, ◌/◌, ◌%◌, arith}
use Rattle.writers.specs.Put.{bytes_of}
use Rattle.writers.proofs.Stores.{part}
use Rattle.writers.proofs.U8Unit.store.Goals as goal

pub returns : goal.returns
returns c =
    let i = c.args.i * 4 in
    let top : c.args.w / 16777216 % 256 ≡ c.args.w / 16777216 = omega arith in
    rw (c.copy_from_slice.ensures.after, c.to_le_bytes.ensures, top) (part c.args.run.now (bytes_of c.args.w) i (i + 4 - i) (omega arith) (omega arith))
