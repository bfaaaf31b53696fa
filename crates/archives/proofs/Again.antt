-- A turn of the loop that prints a piece, and piece after piece of one. Assumes nothing.
use Rattle.std.proofs.Common.{◌≡◌, ℕ, ◌+◌, ◌-◌, ◌*◌, ◌%◌, ◌^◌, ◌<◌, ◌≤◌, Bool, true, false, List, [], ◌∷◌, ◌++◌, length, take, drop, sym, refl, ap, ◌∙◌, append_assoc, append-nil, arith, length-append, length-drop, drop-drop}
use lib.Seq.{sets, length-sets}
use Rattle.words.proofs.Runs.{sets_append}
use Rattle.lines.specs.Parts.{bytes_of_all}
use Rattle.lines.proofs.Parts.{short_parts}
use Rattle.archive_pieces.specs.declared.Told.{Told}
use Rattle.archive_pieces.specs.Steps.{Carried}
use Rattle.std.specs.Prelude.{None}
use Rattle.archive_pieces.specs.declared.Step.{Step}
use Rattle.archive_pieces.specs.declared.Step.TheVariants.{Tell, Carry}
use Rattle.archive_pieces.specs.Steps.{step_of}
use Rattle.archive_pieces.specs.Archive.{on_by}
use Rattle.archive_pieces.proofs.Forward.{held, forward, nearer}
use Rattle.archive_lines.specs.Lines.{parts_of, line_at}
use Rattle.archive_lines.proofs.Lines.{line_fits, any_line}
use Rattle.archives.specs.Printed.{Steps, start, tell, carry, texts_of, Upto, Passed}
use Rattle.archives.proofs.Gathered.{to_the_end}

texts_append : (a b : List Told) → texts_of (a ++ b) ≡ texts_of a ++ texts_of b
texts_append [] b = refl
texts_append (t ∷ a) b = ap (λ (l : List ℕ). bytes_of_all (parts_of t) ++ l) (texts_append a b) ∙ sym (append_assoc (bytes_of_all (parts_of t)) (texts_of a) (texts_of b))

-- no more words are taken than there are
pub steps_within : {ws : List ℕ} {at₀ : ℕ} {k₀ : Carried} {i at : ℕ} {k : Carried} {e : Bool} {ts : List Told} → Steps ws at₀ k₀ e i at k ts → i ≤ length ws
steps_within start = omega arith
steps_within {ws} (tell {i} {at} {n} {k} {t} s e) =
    omega (arith, steps_within s, (forward (drop i ws) at t n k e).within, length-drop i ws)
steps_within (carry s e) = omega arith

module _ (ws : List ℕ) (at₀ : ℕ) (k₀ : Carried) (o : List ℕ) where
  pub begun : Upto ws at₀ k₀ o false 0 at₀ k₀ 0 o
  begun = record { told = []; steps = start; text = refl; holds = refl; same = refl; room = omega arith }

  -- what a step of the code says, which is lent a part of the piece that goes to its end
  step_is : (i at : ℕ) (k : Carried) {x y : Step} → x ≡ step_of (take (length ws - i) (drop i ws)) at k → x ≡ y → step_of (drop i ws) at k ≡ y
  step_is i at k e q = ap (λ (l : List ℕ). step_of l at k) (sym (to_the_end ws i)) ∙ sym e ∙ q

  -- one more item
  pub again : {i at p n at' p' : ℕ} {k : Carried} {o' o'' : List ℕ} {t : Told} {x : Step}
      → Upto ws at₀ k₀ o false i at k p o' → p + 320 ≤ length o' → x ≡ step_of (take (length ws - i) (drop i ws)) at k → x ≡ Tell t n
      → ◌≡◌ {A = ℕ × List ℕ} (p', o'') (line_at o' p (parts_of t)) → at' ≡ (at + n) % 2 ^ 64
      → Upto ws at₀ k₀ o false (i + n) at' None p' o''
  again {i} {at} {p} {n} {at'} {p'} {k} {o'} {o''} {t} u room e q w next =
      let ts = u.told in
      let v = texts_of (t ∷ []) in
      let b = bytes_of_all (parts_of t) in
      let f = w ∙ line_fits o' p (parts_of t) room in
      let nil : v ≡ b = append-nil b in
      let p_is : p' ≡ p + length b = ap (λ (x : ℕ × List ℕ). x.0) f in
      let run_is : o'' ≡ sets o' p v = ap (λ (x : ℕ × List ℕ). x.1) f ∙ ap (sets o' p) (sym nil) in
      let short : length b ≤ 320 = omega (arith, short_parts (parts_of t), any_line t) in
      let texts : texts_of (ts ++ (t ∷ [])) ≡ texts_of ts ++ v = texts_append ts (t ∷ []) in
      let z : 0 + length (texts_of ts) ≡ p = omega (arith, u.text) in
      record {
        told = ts ++ (t ∷ []);
        steps = rw next (tell u.steps (step_is i at k e q));
        text = p_is ∙ omega (arith, u.text, ap length texts ∙ length-append (texts_of ts) v, ap length nil);
        holds = run_is ∙ ap (λ (l : List ℕ). sets l p v) u.holds ∙ ap (λ (j : ℕ). sets (sets o 0 (texts_of ts)) j v) (sym z)
            ∙ sym (sets_append (texts_of ts) v o 0) ∙ ap (sets o 0) (sym texts);
        same = ap length run_is ∙ length-sets o' p v ∙ u.same;
        room = omega (arith, p_is, short, u.same, room);
      }

  -- the piece is at its end
  pub ended : {i at p at' : ℕ} {k l : Carried} {o' : List ℕ} {x : Step}
      → Upto ws at₀ k₀ o false i at k p o' → x ≡ step_of (take (length ws - i) (drop i ws)) at k → x ≡ Carry l → at' ≡ (at + (length ws - i)) % 2 ^ 64
      → Upto ws at₀ k₀ o true (length ws) at' l p o'
  ended {i} {at} {k = k} u e q next =
      let n = next ∙ ap (on_by at) (sym (length-drop i ws)) in
      record { told = u.told; steps = rw n (carry u.steps (step_is i at k e q)); text = u.text; holds = u.holds; same = u.same; room = u.room }

-- an item takes no more words than are left, and with each there is less to come
module _ {ws : List ℕ} {at₀ i n at : ℕ} {k₀ k : Carried} {ts : List Told} {t : Told} {x : Step} (s : Steps ws at₀ k₀ false i at k ts)
    (e : x ≡ step_of (take (length ws - i) (drop i ws)) at k) (q : x ≡ Tell t n) where
  told_is : step_of (drop i ws) at k ≡ Tell t n
  told_is = ap (λ (l : List ℕ). step_of l at k) (sym (to_the_end ws i)) ∙ sym e ∙ q

  pub taken : i + n ≤ length ws
  taken = omega (arith, steps_within s, (forward (drop i ws) at t n k told_is).within, length-drop i ws)

  pub fewer : 2 * (length ws - (i + n)) + 0 < 2 * (length ws - i) + held k
  fewer = omega (arith, steps_within s, nearer (drop i ws) at n t k told_is, length-drop i ws)

-- ---- run after run of a piece

pub on : {ws : List ℕ} {at₀ : ℕ} {k₀ : Carried} {i at : ℕ} {k : Carried} {e : Bool} {j at' : ℕ} {k' : Carried} {ts us : List Told}
    → Steps ws at₀ k₀ false i at k ts → Steps (drop i ws) at k e j at' k' us → Steps ws at₀ k₀ e (i + j) at' k' (ts ++ us)
on {i = i} {ts = ts} s start = let z : i + 0 ≡ i = omega arith in rw (z, append-nil ts) s
on {ws} {i = i} {ts = ts} s (tell {i = j} {at} {n} {k} {t} {ts = us} r q) =
    let a : i + (j + n) ≡ i + j + n = omega arith in
    let d : step_of (drop (i + j) ws) at k ≡ Tell t n = ap (λ (l : List ℕ). step_of l at k) (sym (drop-drop j i ws)) ∙ q in
    rw (a, ← append_assoc ts us (t ∷ [])) (tell (on s r) d)
on {ws} {i = i} {ts = ts} s (carry {i = j} {at} {k} {l} {ts = us} r q) =
    let a : i + length (drop i ws) ≡ length ws = omega (arith, steps_within s, length-drop i ws) in
    let d : step_of (drop (i + j) ws) at k ≡ Carry l = ap (λ (l : List ℕ). step_of l at k) (sym (drop-drop j i ws)) ∙ q in
    rw (a, drop-drop j i ws) (carry (on s r) d)

pub at-end : {ws : List ℕ} {at₀ : ℕ} {k₀ : Carried} {i at : ℕ} {k : Carried} {ts : List Told} → Steps ws at₀ k₀ true i at k ts → i ≡ length ws
at-end (carry s e) = refl

-- each item is a step less to come
all_fewer : {ws : List ℕ} {at₀ : ℕ} {k₀ : Carried} {i at : ℕ} {k : Carried} {ts : List Told} → Steps ws at₀ k₀ false i at k ts
    → 2 * (length ws - i) + held k + length ts ≤ 2 * length ws + held k₀
all_fewer start = omega arith
all_fewer {ws} (tell {i} {at} {n} {k} {t} {ts} s e) =
    omega (arith, all_fewer s, steps_within s, nearer (drop i ws) at n t k e, (forward (drop i ws) at t n k e).within, length-drop i ws, length-append ts (t ∷ []))

some_told : (ts : List Told) → 0 < length (texts_of ts) → 0 < length ts
some_told [] h = h
some_told (t ∷ ts) h = omega arith

pub progress : {ws o o' : List ℕ} {at₀ i at p : ℕ} {k₀ k : Carried} → Upto ws at₀ k₀ o false i at k p o' → length o < p + 320 → 320 ≤ length o
    → 2 * (length ws - i) + held k < 2 * length ws + held k₀
progress u f room =
    let some = some_told u.told (omega (arith, u.text, f)) in
    omega (arith, all_fewer u.steps, some)

-- how far the items of a piece were told
pub record Sofar (ws : List ℕ) (at₀ : ℕ) (k₀ : Carried) (e : Bool) (i at : ℕ) (k : Carried) : Type 0 where
  pub told : List Told
  pub steps : Steps ws at₀ k₀ e i at k told

pub nothing_yet : (ws : List ℕ) (at : ℕ) (k : Carried) → Sofar ws at k false 0 at k
nothing_yet ws at k = record { told = []; steps = start }

pub all_passed : {ws : List ℕ} {at₀ : ℕ} {k₀ : Carried} {i at : ℕ} {k : Carried} {e : Bool} → Sofar ws at₀ k₀ e i at k → e ≡ true → Passed ws at₀ k₀ at k
all_passed s f = let q = rw f at s.steps in record { told = s.told; steps = rw (at-end q) at q }

module _ {ws o o' : List ℕ} {at₀ i at j at' p : ℕ} {k₀ k k' : Carried} {e : Bool} (s : Sofar ws at₀ k₀ false i at k)
    (u : Upto (take (length ws - i) (drop i ws)) at k o e j at' k' p o') where
  pub gone_on : Sofar ws at₀ k₀ e (i + j) at' k'
  gone_on = record { told = s.told ++ u.told; steps = on s.steps (rw (to_the_end ws i) at u.steps) }

  pub gone_less : (e ≡ false → length o < p + 320) → 320 ≤ length o → e ≡ false → 2 * (length ws - (i + j)) + held k' < 2 * (length ws - i) + held k
  gone_less g room f =
      let n : length (take (length ws - i) (drop i ws)) ≡ length ws - i = ap length (to_the_end ws i) ∙ length-drop i ws in
      let l = progress (rw f at u) (g f) room in
      omega (arith, l, n)
