-- Demand 2 at the host's boundary: the words that a host finds in the bytes after any call are those that were asked for, and run by Arm they move the
-- value; and a refusal is one of the refusals' numbers. Assumes nothing.
use mathlib.Core.Path.{◌≡◌, sym, ap, ◌∙◌, subst}
use mathlib.Core.Logic.{◌⊎◌, inl, inr}
use mathlib.Core.List.{List, [], ◌∷◌}
use mathlib.Core.Option.{Option, none, some}
use Prim.Native.Nat.{ℕ, ◌+◌, ◌*◌, ◌^◌, ◌%◌, ◌<◌}
use contract.Lifetimes.{Lfts}
use Rattle.std.proofs.Common.{MutBor}
use lib.IntN.{ℤ}
use lib.Seq.{slice}
use Rattle.arm.specs.MoveWide.{Regs, write, run}
use Rattle.words.specs.Said.{Said, ok, no}
use Rattle.words.specs.Answer.{IsNumber}
use Rattle.words.specs.Place.{pos_of, place_at, Aligned}
use Rattle.words.specs.declared.Place.{Place}
use Rattle.words.proofs.Answers.{Alone, alone_word}
use Rattle.writers.specs.Put.{words_in, put_bytes_of}
use Rattle.writers.proofs.Writes.{words_back}
use Rattle.moves.specs.Moves.{mov_said}
use Rattle.moves.proofs.Demands.{mov_said_lem}
use Rattle.patchable_moves.specs.Patchable.{patch_said}
use Rattle.patchable_moves.proofs.Demands.{patch_said_lem}
use Rattle.disp_targets.specs.Target.{carrying}
use Rattle.host.specs.Number.{refusal_in, Reads, counted_to, words_from, word_at}
use Rattle.host.proofs.Demands.{Sane, Low, low_none, Called, CalledTo, plainly, reads_to, stands_to, fifteen, move_sane, patchable_sane}
use Rattle.host.proofs.vaimalofo_move.Reads as move
use Rattle.host.proofs.vaimalofo_patchable_move.Reads as patchable_move

-- a refusal is one of the refusals' numbers, and 0 where there is none
abbrev pub Refusals : ℕ → Type 0
Refusals n = (refusal_in n ≡ 0) ⊎ IsNumber (refusal_in n)

pub known : (n : ℕ) (a : Said ℤ) → Reads n a → Refusals n
known n (ok v) r = inl r.0
known n (no m) r = inr (subst IsNumber (sym r.1) r.0)

-- ---- any call that wrote

module _ (l : List ℕ) (at : Place) (n : ℕ) (l' : List ℕ) (x : Said (List ℕ)) (h : Sane x) where
  -- the words asked for are those that a host finds
  pub found_to : (low : Option ℕ) → Low low → CalledTo l at n l' low x → refusal_in n ≡ 0 → x ≡ ok (words_from n (pos_of at) l')
  found_to low f e z =
      let s = stands_to l at n l' low x f h e z in
      s.1 ∙ ap ok (sym (ap (λ (k : ℕ). words_in (slice (pos_of at * 4) ((pos_of at + k) * 4) l')) s.2.count ∙ ap words_in s.2.words ∙ words_back s.0))

  pub refusal_to : (low : Option ℕ) → Low low → CalledTo l at n l' low x → Refusals n
  refusal_to low f e = known n (counted_to at (carrying low (put_bytes_of l at x).0)) (reads_to l at n l' low x f h e)

  module _ (e : Called l at n l' x) where
    pub found : refusal_in n ≡ 0 → x ≡ ok (words_from n (pos_of at) l')
    found = found_to none low_none (plainly l at n l' x e)

    -- one word
    pub found_one : Alone x → refusal_in n ≡ 0 → x ≡ ok (word_at n (pos_of at) l' ∷ [])
    found_one a z = alone_word x (words_from n (pos_of at) l') a (found z)

    pub refusal : Refusals n
    refusal = refusal_to none low_none (plainly l at n l' x e)

module _ (k : Lfts 1) (bytes bytes' : MutBor (List ℕ)) (base_address position answer : ℕ) where
  abbrev at : Place
  at = place_at base_address position

  abbrev l : List ℕ
  l = bytes.now

  abbrev l' : List ℕ
  l' = bytes'.now

  -- ---- moves: "run from any old content of registers 0 to 30, leaves the asked value in all 64 bits and the other registers alone"

  module _ (value register : ℕ)
      (p : move.Post k (bytes, (base_address, (position, (value, (register, tt))))) answer (bytes', (base_address, (position, (value, (register, tt)))))) where
    pub move_runs : refusal_in answer ≡ 0 → value < 2 ^ 64 → (R : Regs) → run (words_from answer position l') R ≡ some (write R register value)
    move_runs z v-is R =
        mov_said_lem value register v-is R (words_from answer position l') (found l at answer l' (mov_said value register) (move_sane value register) p z)

    pub move_refusal : Refusals answer
    move_refusal = refusal l at answer l' (mov_said value register) (move_sane value register) p

    -- "15 is tested first"
    pub move_15 : (Aligned at → ⊥) → (answer ≡ 15) × (l' ≡ l)
    move_15 = fifteen l at answer l' (mov_said value register) p

  module _ (value size register : ℕ)
      (p : patchable_move.Post k (bytes, (base_address, (position, (value, (size, (register, tt)))))) answer (bytes', (base_address, (position, (value, (size, (register, tt))))))) where
    pub patchable_move_runs : refusal_in answer ≡ 0 → value < 2 ^ 64 → (R : Regs) → run (words_from answer position l') R ≡ some (write R register (value % 2 ^ size))
    patchable_move_runs z v-is R =
        patch_said_lem value size register v-is R (words_from answer position l')
        (found l at answer l' (patch_said value size register) (patchable_sane value size register) p z)

    pub patchable_move_refusal : Refusals answer
    patchable_move_refusal = refusal l at answer l' (patch_said value size register) (patchable_sane value size register) p

    pub patchable_move_15 : (Aligned at → ⊥) → (answer ≡ 15) × (l' ≡ l)
    patchable_move_15 = fifteen l at answer l' (patch_said value size register) p
