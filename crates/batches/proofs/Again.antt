-- A turn of the loop that prints a block. Assumes nothing.
use Rattle.std.proofs.Common.{◌≡◌, ℕ, zero, suc, ◌+◌, ◌-◌, ◌*◌, ◌/◌, ◌%◌, ◌^◌, ◌<◌, ◌≤◌, Bool, false, List, [], ◌∷◌, ◌++◌, length, get_or, take, drop, sym, refl, ap, ◌∙◌, add-one, arith, length-append, length-drop, length-take, take-suc, drop-drop}
use Rattle.std.specs.Simd.{first_chunks}
use lib.Seq.{sets, length-sets}
use Rattle.words.proofs.Runs.{sets_append}
use Rattle.lines.specs.Item.{Item, items_of}
use Rattle.lines.specs.Text.{texts_of, line_at}
use Rattle.lines.specs.declared.Answer.{Answer}
use Rattle.lines.proofs.Lines.{line_fits}
use Rattle.records.specs.Records.{LineOf}
use Rattle.records.specs.Answers.{OneLine}
use Rattle.records.specs.Inputs.{offset_after, Told, none, more}
use Rattle.records.proofs.Blocks.{offset_at}
use Rattle.batches.specs.Printed.{ends_of, Upto}
use Rattle.lines.proofs.Lines.{any_line, texts_append}

-- ---- twelve bytes by value

record_at : (k i : ℕ) (d bs : List ℕ) → i < k → get_or (first_chunks 12 k bs) i d ≡ take 12 (drop (12 * i) bs)
record_at zero i d bs h = absurd (omega arith)
record_at (suc k) zero d bs h = refl
record_at (suc k) (suc i) d bs h =
    let e : 12 + 12 * i ≡ 12 * suc i = omega arith in
    record_at k i d (drop 12 bs) (omega arith) ∙ ap (take 12) (drop-drop (12 * i) 12 bs) ∙ ap (λ (n : ℕ). take 12 (drop n bs)) e

-- the record at an index of those that a block has
pub record_is : (bs d : List ℕ) {rs : List (List ℕ)} {k i : ℕ} {n : ℕ} → rs ≡ first_chunks 12 k bs → i < k → n ≡ 12 * i → get_or rs i d ≡ take 12 (drop n bs)
record_is bs d {k = k} {i = i} e h t = ap (λ (l : List (List ℕ)). get_or l i d) e ∙ record_at k i d bs h ∙ ap (λ (n : ℕ). take 12 (drop n bs)) (sym t)

abbrev pub firsts : ℕ → List ℕ → List ℕ
firsts zero l = []
firsts (suc n) l = firsts n l ++ (get_or l n 0 ∷ [])

pub firsts_take : (n : ℕ) (l : List ℕ) → n ≤ length l → firsts n l ≡ take n l
firsts_take zero l h = refl
firsts_take (suc n) l h = ap (λ (t : List ℕ). t ++ (get_or l n 0 ∷ [])) (firsts_take n l (omega arith)) ∙ sym (take-suc l n 0 (omega arith))

-- ---- the loop

module _ (offset : ℕ) (bs o : List ℕ) where
  pub first : offset < 2 ^ 64 → Upto offset bs o 0 0 offset false o
  first h = record {
    count = 0;
    lines = [];
    told = none;
    records = refl;
    within = omega arith;
    behind = omega arith;
    text = refl;
    holds = refl;
    same = refl;
    room = omega arith;
  }

  -- one more record
  pub again : {i at next at' next' : ℕ} {o' o'' : List ℕ} {a : Answer}
      → Upto offset bs o i at next false o' → i + 12 ≤ length bs → at + 96 ≤ length o'
      → OneLine (LineOf (take 12 (drop i bs)) next) a
      → ◌≡◌ {A = ℕ × List ℕ} (at', o'') (line_at o' at (items_of a)) → next' ≡ (next + 12) % 2 ^ 64
      → Upto offset bs o (i + 12) at' next' (ends_of (items_of a)) o''
  again {i} {at} {next} {at'} {next'} {o'} {o''} {a} u h room l w n =
      let k = u.count in
      let is = u.lines in
      let js = l.item ∷ [] in
      let f = w ∙ line_fits o' at (items_of a) room in
      let at-is : at' ≡ at + length (texts_of js) = ap (λ (x : ℕ × List ℕ). x.0) f ∙ ap (λ (t : List Item). at + length (texts_of t)) l.line in
      let run_is : o'' ≡ sets o' at (texts_of js) = ap (λ (x : ℕ × List ℕ). x.1) f ∙ ap (λ (t : List Item). sets o' at (texts_of t)) l.line in
      let short : length (texts_of js) ≤ 96 = rw l.line at (any_line a) in
      let texts : texts_of (is ++ js) ≡ texts_of is ++ texts_of js = texts_append is js in
      let z : 0 + length (texts_of is) ≡ at = omega (arith, u.text) in
      record {
        count = suc k;
        lines = is ++ js;
        told = rw l.line (more l.item u.told (rw (u.records, u.behind) at l.says));
        records = omega (arith, u.records);
        within = h;
        behind = n ∙ ap (λ (x : ℕ). offset_after x 1) u.behind ∙ offset_at offset k 1 ∙ ap (offset_after offset) (add-one k);
        text = at-is ∙ ap (λ (x : ℕ). x + length (texts_of js)) u.text ∙ sym (ap length texts ∙ length-append (texts_of is) (texts_of js));
        holds = run_is ∙ ap (λ (q : List ℕ). sets q at (texts_of js)) u.holds
            ∙ ap (λ (x : ℕ). sets (sets o 0 (texts_of is)) x (texts_of js)) (sym z) ∙ sym (sets_append (texts_of is) (texts_of js) o 0) ∙ ap (sets o 0) (sym texts);
        same = ap length run_is ∙ length-sets o' at (texts_of js) ∙ u.same;
        room = omega (arith, at-is, short, u.same);
      }

-- ---- run after run of a block

-- the offset behind i bytes, which are whole records
pub record Reached (offset : ℕ) (bs : List ℕ) (i next : ℕ) : Type 0 where
  pub count : ℕ
  pub records : i ≡ 12 * count
  pub within : i ≤ length bs
  pub behind : next ≡ offset_after offset count

module _ {offset : ℕ} {bs : List ℕ} where
  pub started : offset < 2 ^ 64 → Reached offset bs 0 offset
  started h = record { count = 0; records = refl; within = omega arith; behind = omega arith }

  pub reached : {i next taken written next' : ℕ} {e : Bool} {o o' : List ℕ}
      → Reached offset bs i next → Upto next (take (length bs - i) (drop i bs)) o taken written next' e o' → Reached offset bs (i + taken) next'
  reached {i} p u = record {
    count = p.count + u.count;
    records = omega (arith, p.records, u.records);
    within = omega (arith, p.within, simp (length-take, length-drop) at u.within);
    behind = u.behind ∙ ap (λ (x : ℕ). offset_after x u.count) p.behind ∙ offset_at offset p.count u.count;
  }

  pub all_reached : {i next : ℕ} → Reached offset bs i next → length bs - i < 12 → next ≡ offset_after offset (length bs / 12)
  all_reached p h = p.behind ∙ ap (offset_after offset) (omega (arith, p.records, p.within))

no_lines : {offset : ℕ} {bs : List ℕ} {e : Bool} {is : List Item} → Told offset bs 0 e is → is ≡ []
no_lines none = refl

-- where there is room for a line, a record is taken or the end is reached
pub progress : {offset : ℕ} {bs o : List ℕ} {taken written next : ℕ} {e : Bool} {o' : List ℕ}
    → Upto offset bs o taken written next e o' → (e ≡ false → taken + 12 ≤ length bs → length o < written + 96) → e ≡ false → 96 ≤ length o → 12 ≤ length bs → 12 ≤ taken
progress {offset} {bs} {o} {taken} {written} {e = b} u f e r h = go u.count u.told u.records u.text
  where
    go : (k : ℕ) {is : List Item} → Told offset bs k b is → taken ≡ 12 * k → written ≡ length (texts_of is) → 12 ≤ taken
    go zero told t w = absurd (omega (arith, f e (omega (arith, t)), rw (no_lines told) at w))
    go (suc k) told t w = omega (arith, t)
