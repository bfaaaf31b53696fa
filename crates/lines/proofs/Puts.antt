-- Bytes put into a run, list by list. Assumes nothing.
use mathlib.Core.Path.{◌≡◌, refl, sym, ap, ◌∙◌}
use mathlib.Core.List.{List, [], ◌∷◌, ◌++◌, append-nil, append_assoc}
use Prim.Native.Nat.{ℕ, zero, suc, ◌+◌, ◌≤◌, ◌<◌}
use native.Mathlib.Omega.{arith}
use lib.ListN.{length, take, drop, get_or, length-append}
use borrow.Rule.Slice.PartMut.{put_mid}
use Rattle.std.proofs.lemmas.Slice.{put_mid-paste}
use Rattle.std.proofs.lemmas.List.Edits.{paste_all, sets-eq}
use Rattle.std.proofs.Common.{add-one}
use borrow.Author.Tests.{lt-ltb}
use lib.Dec.{ltb}
use lib.Seq.{sets, take-nil}
use Rattle.words.proofs.Runs.{sets_append}
use Rattle.lines.specs.Item.{Item}
use Rattle.lines.specs.Text.{spaced, texts_of, line_at}
use Rattle.lines.specs.Steps.{Put, Wrote, part}
use Rattle.lines.specs.declared.Cursor.{Cursor}
use Rattle.lines.proofs.Lines.{line_fits}

module _ {o o' : List ℕ} {at r : ℕ} {a : List ℕ} where
  -- one list after the other
  pub puts : (m n : ℕ) {o'' : List ℕ} {r' : ℕ} {b : List ℕ} → Put m o at a r o' → Put n o' r b r' o'' → Put (m + n) o at (a ++ b) r' o''
  puts m n {b = b} p q = record {
    past = q.past ∙ ap (λ (k : ℕ). k + length b) p.past ∙ simp length-append (omega arith);
    holds = q.holds ∙ ap (λ (l : List ℕ). sets l r b) p.holds ∙ ap (λ (k : ℕ). sets (sets o at a) k b) p.past ∙ sym (sets_append a b o at);
    same = q.same ∙ p.same;
    short = omega arith;
  }

  -- room for more than is needed
  pub wider : (m n : ℕ) → m ≤ n → Put m o at a r o' → Put n o at a r o'
  wider m n h p = record { past = p.past; holds = p.holds; same = p.same; short = omega arith }

  -- no more room than the bytes take
  pub tight : (m n : ℕ) → length a ≤ n → Put m o at a r o' → Put n o at a r o'
  tight m n h p = record { past = p.past; holds = p.holds; same = p.same; short = omega arith }

-- a line was put where there is room for any
pub line-is : {m : ℕ} {o o' : List ℕ} {at r : ℕ} (is : List Item) → at + 96 ≤ length o → Put m o at (texts_of is) r o'
    → ◌≡◌ {A = ℕ × List ℕ} (r, o') (line_at o at is)
line-is {o = o} {o' = o'} {at = at} is h p =
    ap (λ (k : ℕ). (k, o')) p.past ∙ ap (λ (l : List ℕ). (at + length (texts_of is), l)) p.holds ∙ sym (line_fits o at is h)

-- a text copied into a part of the run
pub copied : (at k : ℕ) (o vs new : List ℕ) → new ≡ vs → k ≡ length vs → at + length vs ≤ length o → put_mid at k o new ≡ sets o at vs
copied at k o vs new e n h = put_mid-paste at k o new vs (length vs) e (sym n) refl ∙ paste_all o at vs (length vs) refl
    ∙ sym (append_assoc (take at o) vs (drop (at + length vs) o)) ∙ sym (sets-eq vs o at h)

-- ---- the same at a cursor

module _ {c d : Cursor} {a : List ℕ} where
  pub then : (m n : ℕ) {e : Cursor} {b : List ℕ} → Wrote m c a d → Wrote n d b e → Wrote (m + n) c (a ++ b) e
  then m n p q = record { run = q.run ∙ p.run; put = puts m n p.put q.put }

  pub wide : (m n : ℕ) → m ≤ n → Wrote m c a d → Wrote n c a d
  wide m n h p = record { run = p.run; put = wider m n h p.put }

  pub within : (m n : ℕ) → length a ≤ n → Wrote m c a d → Wrote n c a d
  within m n h p = record { run = p.run; put = tight m n h p.put }

-- one more number of a list
pub spaced_more : (f : ℕ → List ℕ) (ns : List ℕ) (k : ℕ) → k < length ns
    → spaced f (take k ns) ++ (32 ∷ f (get_or ns k 0)) ≡ spaced f (take (suc k) ns)
spaced_more f [] k h = absurd (omega arith)
spaced_more f (n ∷ ns) zero h = rw append-nil refl
spaced_more f (n ∷ ns) (suc k) h = rw append_assoc (ap (λ (t : List ℕ). 32 ∷ (f n ++ t)) (spaced_more f ns k (omega arith)))

pub more : (f : ℕ → List ℕ) (ns : List ℕ) (k : ℕ) → k < length ns
    → spaced f (take k ns) ++ (32 ∷ f (get_or ns k 0)) ≡ spaced f (take (k + 1) ns)
more f ns k h = rw add-one (spaced_more f ns k h)

-- up to four numbers of a list, one behind the other
pub parts : (f : ℕ → List ℕ) (n a b c d : ℕ)
    → part f (ltb 0 n) a ++ (part f (ltb 1 n) b ++ (part f (ltb 2 n) c ++ part f (ltb 3 n) d)) ≡ spaced f (take n (a ∷ b ∷ c ∷ d ∷ []))
parts f zero a b c d = refl
parts f (suc zero) a b c d = refl
parts f (suc (suc zero)) a b c d = refl
parts f (suc (suc (suc zero))) a b c d = refl
parts f (suc (suc (suc (suc n)))) a b c d =
    let all = suc (suc (suc (suc n))) in
    simp (take-nil {A = ℕ} n, lt-ltb 0 all (omega arith), lt-ltb 1 all (omega arith), lt-ltb 2 all (omega arith), lt-ltb 3 all (omega arith))
    (rw (append-nil (f d)))
