-- Reading on from each item's end, and a run in pieces. Assumes nothing.
use Rattle.std.specs.Prelude.{cond, ◌&&◌, List, [], ◌∷◌, ℕ, zero, suc, ◌+◌, leb, ltb, Result, Ok, Err}
use Rattle.std.proofs.Math.Option.{Option, none, some}
use Rattle.words.specs.declared.Refusal.{Refusal}
use Rattle.reader.specs.declared.Found.{Found}
use Rattle.reader.specs.declared.Found.TheVariants.{Joined, Single, End}
use Rattle.reader.specs.declared.Span.{Span}
use Rattle.reader.specs.Found.{span, found_of}

-- the words of an item
abbrev pub found_span : Found → Option Span
found_span (Joined c s) = some s
found_span (Single i s) = some s
found_span End = none

abbrev pub span_of : Result Found Refusal → Option Span
span_of (Ok f) = found_span f
span_of (Err r) = none

abbrev pub on_to : Option Span → (ℕ → List Span) → List Span
on_to none rest = []
on_to (some s) rest = s ∷ rest s.next.0

-- where items begin and end, from a position on, up to n of them
unfoldable pub spans : ℕ → List ℕ → ℕ → List Span
spans zero ws at = []
spans (suc n) ws at = on_to (span_of (found_of ws at)) (spans n ws)

-- how many of them hold a position
unfoldable pub holding : ℕ → List Span → ℕ
holding k [] = 0
holding k (s ∷ ps) = cond (leb s.at.0 k && ltb k s.next.0) (suc (holding k ps)) (holding k ps)

-- what was found in the words from k on, with the positions of the whole run
abbrev pub moved : ℕ → Span → Span
moved k s = span (k + s.at.0) (k + s.next.0)

abbrev pub found_moved : ℕ → Found → Found
found_moved k (Joined c s) = Joined c (moved k s)
found_moved k (Single i s) = Single i (moved k s)
found_moved k End = End

abbrev pub moved_by : ℕ → Result Found Refusal → Result Found Refusal
moved_by k (Ok f) = Ok (found_moved k f)
moved_by k (Err r) = Err r

-- a constant that began at a position and went on in the words from k on
abbrev pub found_on : ℕ → ℕ → Found → Found
found_on at k (Joined c s) = Joined c (span at (k + s.next.0))
found_on at k (Single i s) = Single i s
found_on at k End = End

abbrev pub gone_on : ℕ → ℕ → Result Found Refusal → Result Found Refusal
gone_on at k (Ok f) = Ok (found_on at k f)
gone_on at k (Err r) = Err r
