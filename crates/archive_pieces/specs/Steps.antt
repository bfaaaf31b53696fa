-- What comes next in a piece of an archive. Assumes nothing.
use Rattle.std.specs.Prelude.{cond, List, ℕ, eqb, length, Option, None, Some, Result, Ok, Err}
use Rattle.words.specs.declared.Refusal.{Refusal}
use Rattle.reader.specs.declared.Constant.{Constant}
use Rattle.reader.specs.declared.Found.{Found}
use Rattle.reader.specs.declared.Found.TheVariants as found
use Rattle.reader.specs.Found.{found_of, resumed_of}
use Rattle.archive_pieces.specs.declared.Told.TheVariants.{Joined, Single}
use Rattle.archive_pieces.specs.declared.Begun.{Begun}
use Rattle.archive_pieces.specs.declared.Step.{Step}
use Rattle.archive_pieces.specs.declared.Step.TheVariants.{Tell, Carry}

-- what is carried into a piece: nothing, or a constant that reaches up to it
abbrev pub Carried : Type 0
Carried = Option Begun

abbrev pub begun : Constant → ℕ → Begun
begun c at = record { constant = c; at = at }

-- a constant whose words stand up to a word of the piece: it is told, unless it reaches the piece's end
abbrev pub reached_of : Begun → ℕ → ℕ → Step
reached_of b next end = cond (eqb next end) (Carry (Some b)) (Tell (Joined b.constant b.at) next)

-- by what stands at the piece's start
abbrev pub begins_of : List ℕ → ℕ → Result Found Refusal → Step
begins_of ws at (Ok (found.Joined c s)) = reached_of (begun c at) s.next.0 (length ws)
begins_of ws at (Ok (found.Single i s)) = Tell (Single i at) s.next.0
begins_of ws at (Ok found.End) = Carry None
begins_of ws at (Err r) = Carry None

-- by what a carried constant is with the words at the piece's start
abbrev pub goes_on_of : List ℕ → Begun → Result Found Refusal → Step
goes_on_of ws b (Ok (found.Joined c s)) = reached_of (begun c b.at) s.next.0 (length ws)
goes_on_of ws b (Ok (found.Single i s)) = Tell (Joined b.constant b.at) 0
goes_on_of ws b (Ok found.End) = Tell (Joined b.constant b.at) 0
goes_on_of ws b (Err r) = Tell (Joined b.constant b.at) 0

unfoldable pub step_of : List ℕ → ℕ → Carried → Step
step_of ws at None = begins_of ws at (found_of ws 0)
step_of ws at (Some b) = goes_on_of ws b (resumed_of ws b.constant)
