-- The one number of a word written again. Assumes nothing.
use Rattle.std.specs.Prelude.{ℕ, pos}
use Rattle.words.specs.Said.{ok}
use Rattle.item_words.specs.Again.{rewritten}
use Rattle.host.specs.Number.{told}

-- a word, written again from its own fields: never a refusal
abbrev pub host_rewrite : ℕ → ℕ
host_rewrite w = told (ok (pos (rewritten w)))
