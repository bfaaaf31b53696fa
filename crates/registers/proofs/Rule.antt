-- The shift map's rule, tested at all of its entries at once. Assumes nothing.
use Rattle.std.proofs.Common.{◌≡◌, ℕ, ◌<◌, Bool, cond, eqb, get_or, eqb→eq}
use Rattle.words.proofs.Table.{at}
use Rattle.registers.specs.Shifts.{shifts}

-- 3 at 0 (LSL), 2 at 8 (UXTW), 6 at 12 (SXTW), 7 at 13 (SXTX); there is no other
abbrev pub option : ℕ → ℕ
option n = cond (eqb n 0) 3 (cond (eqb n 8) 2 (cond (eqb n 12) 6 (cond (eqb n 13) 7 255)))

abbrev right : ℕ → ℕ → Bool
right n x = eqb x (option n)

pub rule : (n : ℕ) → n < 16 → get_or shifts n 0 ≡ option n
rule n h = eqb→eq (get_or shifts n 0) (option n) (at right 0 shifts tt n h)
