-- The fixed bits of a format's instructions are outside its field: words that are alike outside of it are of the same form. Assumes nothing.
use Rattle.std.proofs.Common.{◌≡◌, ℕ, ◌+◌, ◌-◌, ◌<◌, ◌≤◌, refl, inl, inr, arith}
use Rattle.arm.specs.FixedBits.{is_bcond, is_cbz}
use Rattle.words.proofs.Fields.{part}
use Rattle.forms.specs.Form.{is_of_form}
use Rattle.forms.proofs.Formats.{each}
use Rattle.displacements.specs.Forms.{Form, form_of}
use Rattle.displacements.proofs.Laws.{Outside}

-- a slice above a field without low bits, and those around the low bits of ADR and ADRP
past : {f : Form} {q l : ℕ} → f.low ≡ 0 → f.at + (f.bits - f.low) ≤ q → Outside f q l
past z h = record { rest = inr h; lows = inl z }

around : {f : Form} → f.low ≡ 2 → f.at + (f.bits - f.low) ≤ 24 → Outside f 31 1 × Outside f 24 5
around z h = (record { rest = inr (omega arith); lows = inr (inr (omega arith)) }, record { rest = inr h; lows = inr (inl (omega arith)) })

module _ (w b : ℕ) where
  -- two words that are alike outside the field of format n
  abbrev Alike : ℕ → Type 0
  Alike n = (q l : ℕ) → Outside (form_of n) q l → part q l w ≡ part q l b

  pub conds_kept : Alike 1 → (is_bcond w ≡ is_bcond b) × (is_cbz w ≡ is_cbz b)
  conds_kept k =
      let top : part 25 7 w ≡ part 25 7 b = k 25 7 (past refl (omega arith)) in
      let op : part 24 1 w ≡ part 24 1 b = k 24 1 (past refl (omega arith)) in
      let low : part 4 1 w ≡ part 4 1 b = k 4 1 (record { rest = inl (omega arith); lows = inl refl }) in
      let six : part 25 6 w ≡ part 25 6 b = k 25 6 (past refl (omega arith)) in
      (rw (top, op, low), rw six)

  pub forms_kept : (n : ℕ) → n < 6 → Alike n → is_of_form n w ≡ is_of_form n b
  unfolding is_of_form
  forms_kept =
      each (λ n. Alike n → is_of_form n w ≡ is_of_form n b)
      (λ k. rw (k 26 5 (past refl (omega arith))))
      (λ k. rw ((conds_kept k).0, (conds_kept k).1))
      (λ k. rw (k 25 6 (past refl (omega arith))))
      (λ k. let o = around refl (omega arith) in rw (k 31 1 o.0, k 24 5 o.1))
      (λ k. let o = around refl (omega arith) in rw (k 31 1 o.0, k 24 5 o.1))
      (λ k. rw (k 27 3 (past refl (omega arith)), k 24 2 (past refl (omega arith)), k 30 2 (past refl (omega arith)), k 26 1 (past refl (omega arith))))
