-- What a host reads from the number of a call and from the numbers that it lent, by the entry's own contract. Assumes nothing.
use mathlib.Core.Path.{◌≡◌, refl, sym, ap, subst, subst⁻¹, ◌∙◌}
use mathlib.Core.Bool.{Bool, true, false}
use mathlib.Core.Logic.{◌⊎◌, inl, inr}
use mathlib.Core.List.{List}
use mathlib.Core.Option.{some}
use Prim.Native.Nat.{ℕ, ◌+◌, ◌≤◌, ◌<◌}
use native.Mathlib.Omega.{arith}
use borrow.Author.Tests.{lt-ltb, le-ltb, ltb-true, ltb-false}
use contract.Lifetimes.{Lfts}
use Rattle.std.proofs.Common.{Bor, MutBor}
use lib.Dec.{ltb}
use lib.IntN.{pos}
use lib.ListN.{length, take, drop, get_or}
use Rattle.arm.specs.MoveWide.{Regs, write, run}
use Rattle.std.specs.Prelude.{Result, Ok}
use Rattle.words.specs.declared.Refusal.{Refusal}
use Rattle.items.specs.Items.{item_of}
use Rattle.items.specs.declared.Item.{Item}
use Rattle.reader.specs.declared.Found.{Found}
use Rattle.reader.specs.declared.Found.TheVariants.{Single}
use Rattle.reader.specs.declared.Span.{Span}
use Rattle.reader.specs.Found.{span, found_of}
use Rattle.reader.proofs.Finds as finds
use Rattle.reader.proofs.Constants.{constant_leaves}
use Rattle.reader.proofs.Cover.{onward}
use Rattle.host.specs.Number.{refusal_in, value_in, Reads}
use Rattle.host.proofs.Reading.{told_reads}
use Rattle.host_reader.specs.Numbers.{kind_of, item_numbers, number_list, host_found}
use Rattle.host_reader.proofs.Laws.{most, small, written_first, written_behind, spanned, joined_kind, single_kind, single_is}
use Rattle.host_reader.proofs.vaimalofo_read.Reads as read

-- the parts of two pairs that are one
apart : {n m : ℕ} {l l' : List ℕ} → ◌≡◌ {A = ℕ × List ℕ} (n, l) (m, l') → (n ≡ m) × (l ≡ l')
apart e = (ap (λ (z : ℕ × List ℕ). z.0) e, ap (λ (z : ℕ × List ℕ). z.1) e)

module _ (k : Lfts 2) (words words' : Bor (List ℕ)) (numbers numbers' : MutBor (List ℕ)) (position answer : ℕ)
    (p : read.Post k (words, (position, (numbers, tt))) answer (words', (position, (numbers', tt)))) where
  abbrev ws : List ℕ
  ws = words.now

  abbrev ns : List ℕ
  ns = numbers.now

  abbrev ns' : List ℕ
  ns' = numbers'.now

  -- what stands at the position, and the numbers that a host finds after the call
  abbrev found : Result Found Refusal
  found = found_of ws position

  abbrev number : ℕ → ℕ
  number i = get_or ns' i 0

  hosted : 11 ≤ length ns → (answer, ns') ≡ host_found ns found
  hosted h = p ∙ simp (le-ltb (length ns) 11 h)

  -- 8 where fewer than eleven numbers are lent, and past the end: nothing is written
  pub read_few : length ns < 11 → (answer ≡ 8) × (ns' ≡ ns)
  read_few h = apart (p ∙ simp (lt-ltb (length ns) 11 h))

  pub read_past : length ws < position → (answer ≡ 8) × (ns' ≡ ns)
  read_past h = go (ltb (length ns) 11) refl
    where
      go : (b : Bool) → ltb (length ns) 11 ≡ b → (answer ≡ 8) × (ns' ≡ ns)
      go true e = read_few (ltb-true _ _ e)
      go false e = apart (hosted (ltb-false _ _ e) ∙ ap (host_found ns) (sym (finds.past ws position h)))

  module _ (enough : 11 ≤ length ns) where
    -- the kind, or the refusal
    pub read_told : Reads answer (kind_of found)
    read_told = subst⁻¹ (λ (n : ℕ). Reads n (kind_of found)) (apart (hosted enough)).0 (told_reads (kind_of found) (small found))

    -- each number of what was found; and every number behind these is as before
    pub read_number : (i : ℕ) → i < length (number_list found) → number i ≡ get_or (number_list found) i 0
    read_number i l = ap (λ (z : List ℕ). get_or z i 0) (apart (hosted enough)).1 ∙ written_first ns (number_list found) (omega (arith, most found)) i l

    pub read_behind : (i : ℕ) → length (number_list found) ≤ i → number i ≡ get_or ns i 0
    read_behind i l = ap (λ (z : List ℕ). get_or z i 0) (apart (hosted enough)).1 ∙ written_behind ns (number_list found) (omega (arith, most found)) i l

    -- the end of the run is kind 0, and nothing is written
    pub read_end : length ws ≡ position → (answer ≡ 0) × (ns' ≡ ns)
    read_end h = apart (hosted enough ∙ ap (host_found ns) (sym (finds.end ws position h)))

    -- from a word of the run on something is read, and a later position is told, no further than the end
    pub read_on_lem : position < length ws → (refusal_in answer ≡ 0) × (position < number 0) × (number 0 ≤ length ws)
    read_on_lem h =
        let o = onward ws position h in
        let q = spanned found o.is in
        let next : number 0 ≡ o.next = read_number 0 q.some ∙ q.next in
        ((subst (Reads answer) q.is read_told).0, rw next o.later, rw next o.within)

    numbers_of : {f : Result Found Refusal} → found ≡ f → (i : ℕ) → i < length (number_list f) → number i ≡ get_or (number_list f) i 0
    numbers_of e i l = subst (λ (g : Result Found Refusal). i < length (number_list g) → number i ≡ get_or (number_list g) i 0) e (read_number i) l

    -- a constant: its words, run from any old content of the registers, leave its value in its register and the others alone
    pub read_constant : value_in answer ≡ pos 1 → (number 0 ≡ position + number 4) × ((R : Regs) → run (take (number 4) (drop position ws)) R ≡ some (write R (number 1) (number 3)))
    read_constant v =
        let j = joined_kind answer 1 v found read_told refl in
        let c = j.0 in
        let n = numbers_of j.2 in
        let l = constant_leaves ws position c j.1 j.2 in
        let count = n 4 (omega arith) in
        let rd = n 1 (omega arith) in
        let value = n 3 (omega arith) in
        (n 0 (omega arith) ∙ ap (λ (s : Span). s.next.0) l.stands ∙ ap (λ (m : ℕ). position + m) (sym count), λ R. rw (count, rd, value) (l.leaves R))

    -- the kinds from 2 on: the numbers are those of what the word at the position is
    pub read_word : (kind : ℕ) → 2 ≤ kind → value_in answer ≡ pos kind
        → let vs = item_numbers (item_of (get_or ws position 0)) (span position (position + 1)) in (i : ℕ) → i < length vs → number i ≡ get_or vs i 0
    read_word kind k v =
        let j = single_kind answer kind v found read_told k in
        let h = single_is ws position j.2 in
        numbers_of (j.2 ∙ ap (λ (i : Item). Ok (Single i j.1)) h.0 ∙ ap (λ (n : Span). Ok (Single (item_of (get_or ws position 0)) n)) h.1)

  answered : 11 ≤ length ns → position ≤ length ws → refusal_in answer ≡ 0
  answered enough h = go (ltb position (length ws)) refl
    where
      go : (b : Bool) → ltb position (length ws) ≡ b → refusal_in answer ≡ 0
      go true e = (read_on_lem enough (ltb-true _ _ e)).0
      go false e = rw (read_end enough (omega (arith, ltb-false position (length ws) e))).0

  -- a refusal is 8, and given only where too few numbers are lent or the position lies past the end
  pub read_refusal : (refusal_in answer ≡ 0 → ⊥) → (answer ≡ 8) × (ns' ≡ ns) × ((length ns < 11) ⊎ (length ws < position))
  read_refusal r = go (ltb (length ns) 11) refl (ltb (length ws) position) refl
    where
      go : (b : Bool) → ltb (length ns) 11 ≡ b → (d : Bool) → ltb (length ws) position ≡ d → (answer ≡ 8) × (ns' ≡ ns) × ((length ns < 11) ⊎ (length ws < position))
      go true e d q = let h = ltb-true _ _ e in ((read_few h).0, (read_few h).1, inl h)
      go false e true q = let h = ltb-true _ _ q in ((read_past h).0, (read_past h).1, inr h)
      go false e false q = absurd (r (answered (ltb-false _ _ e) (ltb-false _ _ q)))
