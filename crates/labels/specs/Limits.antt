-- How many labels and pending uses there may be. Assumes nothing.
use Rattle.std.specs.Prelude.{ℕ}

-- "labels 0 to 255"
abbrev pub label_limit : ℕ
label_limit = 256

-- "at most 1,024 pending"
abbrev pub use_limit : ℕ
use_limit = 1024
