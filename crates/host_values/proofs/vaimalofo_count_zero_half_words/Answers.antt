-- The count of `host_values::vaimalofo_count_zero_half_words` fits its cast: there are four halfwords. Assumes nothing.
use Rattle.std.proofs.Common.{◌≤◌, arith}
use Rattle.host_values.proofs.Laws.{count_four}
use Rattle.host_values.proofs.vaimalofo_count_zero_half_words.Goals as goal

pub overflow_cast-count_zero_half_words_64 : goal.overflow_cast-count_zero_half_words_64
overflow_cast-count_zero_half_words_64 c =
    let few : c.count_zero_half_words_64.result ≤ 4 = rw c.count_zero_half_words_64.ensures (count_four 0 _) in
    record { fits = omega arith }
