-- The cases of `line_at`, how long a line is, and how many words would do. Assumes nothing.
use mathlib.Core.Path.{◌≡◌, sym, ap, ◌∙◌}
use mathlib.Core.Bool.{Bool, true, false, cond}
use mathlib.Core.List.{List, [], ◌∷◌, ◌++◌}
use Prim.Native.Nat.{ℕ, suc, ◌+◌, ◌-◌, ◌^◌, ◌≤◌, ◌<◌}
use native.Mathlib.Omega.{arith}
use borrow.Author.Tests.{le-leb, lt-leb, lt-ltb, le-ltb}
use lib.Dec.{eqb, ltb}
use lib.ListN.{length}
use lib.Seq.{sets}
use mir.Syntax.{w64}
use mir.Val.{to_z, of_z}
use lib.IntN.{ℤ, pos, negsuc, nat_abs}
use mir.Facts.{to_z-of_z}
use mir.Val.{SFits}
use lib.Signed.{mag}
use Rattle.std.specs.Int.{is_negative}
use Rattle.words.specs.Said.{Said, ok, no}
use Rattle.words.specs.Listed.{packed}
use Rattle.words.specs.declared.Words.{Words}
use Rattle.lines.specs.Text.{line_end}
use Rattle.lines.specs.Parts.{Part, text, number, bytes_of_all, most_of, most_of_all, parts_at}
use Rattle.lines.proofs.Parts.{parts_fit}
use Rattle.moves.specs.Moves.{mov_said}
use Rattle.items.specs.declared.Item.{Item}
use Rattle.items.specs.declared.Item.TheVariants.{Wide, Logical, Displaced, Unknown}
use Rattle.reader.specs.declared.Constant.{Constant}
use Rattle.archive_pieces.specs.declared.Told.{Told}
use Rattle.archive_pieces.specs.declared.Told.TheVariants.{Joined, Single}
use Rattle.archive_lines.specs.Texts.{could_text, and_text, orr_text, eor_text, ands_text, not_normal_text, distance_text, minus_text}
use Rattle.archive_lines.specs.Lines.{fewest_in, fewest_of, could_parts, operation_text, distance_parts, item_parts, body_parts, parts_of, line_at}
use Rattle.words.specs.Answer.{said}
use Rattle.words.proofs.Answers.{not_both}
use Rattle.std.specs.Prelude.{Result, Ok, Err, MatchResult}
use Rattle.words.specs.declared.Refusal.{Refusal}

-- ---- how many words would do

packed_count : (m : ℕ) (a : Result Words Refusal) (s : Said (List ℕ)) {n : ℕ} → said a ≡ packed s → MatchResult a (λ w. n ≡ w.count) (λ r. n ≡ m) → n ≡ fewest_in m s
packed_count m (Ok w) (ok ws) e h = h ∙ ap (λ (v : Words). v.count) (out e)
  where
    out : {v u : Words} → ok v ≡ ok u → v ≡ u
    out e = cc
packed_count m (Ok w) (no r) e h = absurd (not_both e)
packed_count m (Err r) (ok ws) e h = absurd (not_both (sym e))
packed_count m (Err r) (no k) e h = h

pub fewest_is : (c : Constant) (a : Result Words Refusal) {n : ℕ} {P : Words → Type 0} {Q : Refusal → Type 0} → said a ≡ packed (mov_said c.value c.rd)
    → MatchResult a P Q → ((w : Words) → P w → n ≡ w.count) → ((r : Refusal) → Q r → n ≡ c.count) → n ≡ fewest_of c
unfolding fewest_of
fewest_is c (Ok w) e h p q = packed_count c.count (Ok w) (mov_said c.value c.rd) e (p w h)
fewest_is c (Err r) e h p q = packed_count c.count (Err r) (mov_said c.value c.rd) e (q r h)

-- ---- a signed number by its 64 bits, and as its size and its sign

never : {A : Type 0} → true ≡ false → A
never e = let z : ◌≡◌ {A = ℕ} 0 1 = cc in absurd (omega arith)

module _ (z : ℤ) (f : SFits w64 z) {n : ℕ} (size : n ≡ nat_abs (to_z w64 (of_z w64 z))) where
  pub negative_parts : is_negative (to_z w64 (of_z w64 z)) ≡ true → (text minus_text ∷ number n ∷ []) ≡ distance_parts (of_z w64 z)
  negative_parts s = go z f.sfits (rw (to_z-of_z {w = w64} f) at size) (rw (to_z-of_z {w = w64} f) at s)
    where
      go : (z : ℤ) → mag z < 2 ^ 63 → n ≡ nat_abs z → is_negative z ≡ true → (text minus_text ∷ number n ∷ []) ≡ distance_parts (of_z w64 z)
      go (pos m) h e s = never (sym s ∙ le-ltb m 0 (omega arith))
      go (negsuc k) h e s =
          let m : n ≡ 2 ^ 64 - (2 ^ 64 - suc k) = omega arith in
          rw (le-ltb (2 ^ 64 - suc k) (2 ^ 63) (omega arith)) (ap (λ (m : ℕ). text minus_text ∷ number m ∷ []) m)

  pub positive_parts : is_negative (to_z w64 (of_z w64 z)) ≡ false → (text distance_text ∷ number n ∷ []) ≡ distance_parts (of_z w64 z)
  positive_parts s = go z f.sfits (rw (to_z-of_z {w = w64} f) at size) (rw (to_z-of_z {w = w64} f) at s)
    where
      go : (z : ℤ) → mag z < 2 ^ 63 → n ≡ nat_abs z → is_negative z ≡ false → (text distance_text ∷ number n ∷ []) ≡ distance_parts (of_z w64 z)
      go (pos m) h e s = rw (lt-ltb m (2 ^ 63) h) (ap (λ (m : ℕ). text distance_text ∷ number m ∷ []) e)
      go (negsuc k) h e s = never s

-- ---- no line is longer than the room that is asked for

short_could : (n count : ℕ) → most_of_all (could_parts n count) ≤ 30
short_could n count = go (ltb n count)
  where
    go : (b : Bool) → most_of_all (cond b (text could_text ∷ number n ∷ []) []) ≤ 30
    go true = omega arith
    go false = omega arith

most-append : (ps qs : List Part) → most_of_all (ps ++ qs) ≡ most_of_all ps + most_of_all qs
most-append [] qs = omega arith
most-append (p ∷ ps) qs = ap (λ (n : ℕ). most_of p + n) (most-append ps qs) ∙ omega arith

short_operation : (k : ℕ) → length (operation_text k) ≤ 13
short_operation k = go (eqb k 0) (eqb k 1) (eqb k 2)
  where
    go : (a b c : Bool) → length (cond a and_text (cond b orr_text (cond c eor_text ands_text))) ≤ 13
    go true b c = omega arith
    go false true c = omega arith
    go false false true = omega arith
    go false false false = omega arith

short_normal : (b : Bool) → most_of_all (cond b [] (text not_normal_text ∷ [])) ≤ 11
short_normal true = omega arith
short_normal false = omega arith

short_distance : (b : ℕ) → most_of_all (distance_parts b) ≤ 31
short_distance b = go (ltb b (2 ^ 63))
  where
    go : (t : Bool) → most_of_all (cond t (text distance_text ∷ number b ∷ []) (text minus_text ∷ number (2 ^ 64 - b) ∷ [])) ≤ 31
    go true = omega arith
    go false = omega arith

short_item : (i : Item) → most_of_all (item_parts i) ≤ 299
short_item (Wide m) = omega arith
short_item (Logical l) = omega (arith, short_operation l.operation, short_normal l.normal)
short_item (Displaced d) = omega (arith, short_distance (of_z w64 d.distance.0))
short_item (Unknown w) = omega arith

short_body : (t : Told) → most_of_all (body_parts t) ≤ 319
short_body (Joined c at) = omega (arith, short_could (fewest_of c) c.count)
short_body (Single i at) = omega (arith, short_item i)

pub any_line : (t : Told) → most_of_all (parts_of t) ≤ 320
any_line t = omega (arith, most-append (body_parts t) (text line_end ∷ []), short_body t)

-- ---- a line with room, and one without

module _ (o : List ℕ) (at : ℕ) (ps : List Part) where
  pub line_fits : at + 320 ≤ length o → line_at o at ps ≡ (at + length (bytes_of_all ps), sets o at (bytes_of_all ps))
  unfolding line_at
  line_fits h = simp (le-leb (at + 320) (length o) h)

  pub line_full : length o < at + 320 → line_at o at ps ≡ (at, o)
  unfolding line_at
  line_full h = simp (lt-leb (at + 320) (length o) h)

pub line-is : (o : List ℕ) (at : ℕ) (t : Told) {q : ℕ × List ℕ} → at + 320 ≤ length o → q ≡ parts_at (at, o) (parts_of t) → q ≡ line_at o at (parts_of t)
line-is o at t h e = e ∙ parts_fit (parts_of t) o at (omega (arith, any_line t)) ∙ sym (line_fits o at (parts_of t) h)
