-- A turn of the pass of `halfwords::count_half_words_64`, and its end. Assumes nothing.
use Rattle.std.proofs.Common.{◌≡◌, ◌%◌, arith}
use Rattle.halfwords.proofs.Pass.{next, up, tested, carries, all_four}
use Rattle.halfwords.proofs.count_half_words_64.Goals as goal

pub loop-preserved : goal.loop-preserved
loop-preserved c =
    let k = c.loop.counter in
    let h = c.loop.left % 65536 in
    let p = c.loop.invariant in
    let z = tested 0 h c.from-zeros.ensures in
    record {
      few_zeros = omega (arith, p.few_zeros, z.1);
      few_ones = omega (arith, p.few_ones);
      left = up k _ p.left;
      zeros = next 0 k _ p.zeros p.left z.0;
      ones = next 0xFFFF k _ p.ones p.left (carries h (omega arith));
    }

pub returns : goal.returns
returns c =
    let p = c.loop.invariant in
    let four : c.loop.counter ≡ 4 = omega arith in
    record { zeros = all_four 0 _ four p.zeros; ones = all_four 0xFFFF _ four p.ones }
