-- A number by its tenth. Assumes nothing.
use Rattle.std.proofs.Common.{arith}
use Rattle.lines.proofs.Digits.{decimal_one, decimal_more, short_tenth, short_all}
use Rattle.lines.proofs.Puts.{puts, wider, tight}
use Rattle.lines.proofs.+put_decimal.Goals as goal

pub returns-then-n-lt10 : goal.returns-then-n-lt10
returns-then-n-lt10 t c = rw (decimal_one c.args.n (omega arith)) (wider 1 20 (omega arith) c.put_byte.ensures)

pub put_byte-requires-2 : goal.put_byte-requires-2
put_byte-requires-2 t c = omega (arith, short_tenth c.args.n (omega arith))

pub returns : goal.returns
returns t c =
    let n = c.args.n in
    let e = decimal_more n (omega arith) (omega arith) in
    rw e (tight 21 20 (rw (← e) (short_all n)) (puts 20 1 c.put_decimal-p.ensures c.put_byte-2.ensures))
