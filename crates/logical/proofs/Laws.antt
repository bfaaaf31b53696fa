-- What the encoder's promise says by itself, and how a run gives the answer. Assumes nothing.
use mathlib.Core.Path.{◌≡◌, refl, sym, ap, ap₂, ◌∙◌}
use mathlib.Core.Logic.{inl, inr, ⊎_elim}
use Prim.Native.Nat.{ℕ, ◌-◌, ◌*◌, ◌%◌, ◌^◌, ◌≤◌, ◌<◌}
use native.Mathlib.Nat.{mod-eq_of_lt, mod-mod}
use native.Mathlib.Omega.{arith}
use Rattle.arm.specs.Bits.{Ones}
use Rattle.arm.specs.BitMasks.{IsWidth, Legal, wmask, esize}
use Rattle.arm.specs.Elements.{IsRun}
use Rattle.arm.proofs.Fields.{spelt, legal_element}
use Rattle.arm.proofs.Lengths.{ones_mod, width_le}
use Rattle.arm.proofs.Trailing.{parity}
use Rattle.arm.proofs.Masks as masks
use Rattle.arm.proofs.Laws.{shape, same_fields}
use Rattle.words.specs.Said.{Said, ok, no}
use Rattle.logical.specs.declared.LogicalImm.{LogicalImm}
use Rattle.logical.specs.Answer.{Refused, Decodes, Encoded}
use Rattle.logical.specs.Width.{bits_of}
use Rattle.logical.specs.declared.Width.{Width}
use Rattle.logical.specs.declared.Width.TheVariants.{W32, W64}
use Rattle.logical.specs.Run.{spelling, Evened}

-- ---- one answer

-- N, S, R and the length, whatever they are
abbrev pub four : ℕ → ℕ → ℕ → ℕ → LogicalImm
four n s r e = record { n = n; s = s; r = r; length = e }

-- N and S fix the length
pub one_length : {n s e n' s' e' : ℕ} → e ≡ esize n s → e' ≡ esize n' s' → n ≡ n' → s ≡ s' → e ≡ e'
one_length a b p q = a ∙ ap₂ esize p q ∙ sym b

-- so N, S and R tell all of it
pub by_three : {n s r e n' s' r' e' : ℕ} → e ≡ esize n s → e' ≡ esize n' s' → n ≡ n' → s ≡ s' → r ≡ r' → four n s r e ≡ four n' s' r' e'
by_three a b p q t = let u = one_length a b p q in cc

-- a width at which 3 is not given bars every refusal; and two refusals give one number
pub not_refused : {A W N : Type 0} {k : ℕ} → W → (N → ⊥) → Refused k W N → A
not_refused w n h = absurd (⊎_elim (λ a. a.1 w) (λ b. n b.2) h)

pub one_number : {W N : Type 0} {j k : ℕ} → Refused j W N → Refused k W N → j ≡ k
one_number a b =
    ⊎_elim
    (λ p. ⊎_elim (λ q. p.0 ∙ sym q.0) (λ q. absurd (p.1 q.1)) b)
    (λ p. ⊎_elim (λ q. absurd (q.1 p.1)) (λ q. p.0 ∙ sym q.0) b)
    a

pub one_fields : {w : ℕ} (v v' : ℕ) {f g : LogicalImm} → Encoded w v (ok f) → Encoded w v' (ok g) → v % 2 ^ w ≡ v' % 2 ^ w → f ≡ g
one_fields v v' {f} {g} a b q =
    let t = same_fields a.0 a.1.legal b.1.legal (a.1.mask ∙ q ∙ sym b.1.mask) in
    let f-low : f.r % esize f.n f.s ≡ f.r = mod-eq_of_lt (omega (arith, a.2)) in
    let g-low : g.r % esize g.n g.s ≡ g.r = mod-eq_of_lt (omega (arith, b.2)) in
    by_three a.3 b.3 t.0 t.1 (sym f-low ∙ t.2 ∙ g-low)

pub encoded_one : (w v : ℕ) (a b : Said LogicalImm) → Encoded w v a → Encoded w v b → a ≡ b
encoded_one w v (ok f) (ok g) a b = ap ok (one_fields v v a b refl)
encoded_one w v (ok f) (no k) a b = not_refused a.0 (λ none. none _ _ _ a.1) b
encoded_one w v (no k) (ok g) a b = not_refused b.0 (λ none. none _ _ _ b.1) a
encoded_one w v (no j) (no k) a b = ap no (one_number a b)

-- what is made of some answer to a value is one thing
pub one_from : {w : ℕ} (v : ℕ) {A : Type 0} {y z : A} {f : Said LogicalImm → A}
    → ((a : Said LogicalImm) × Encoded w v a × (y ≡ f a)) → ((a : Said LogicalImm) × Encoded w v a × (z ≡ f a)) → y ≡ z
one_from {w} v {f = f} p q = p.2 ∙ ap f (encoded_one w v p.0 q.0 p.1 q.1) ∙ sym q.2

-- the length is 64 at most
pub length_low : {w n s r e : ℕ} → IsWidth w → Legal w n s r → e ≡ esize n s → e ≤ 64
length_low ww h q = rw q (omega (arith, (legal_element ww h).fits, width_le ww))

-- ---- widths

pub width_is : (w : Width) → IsWidth (bits_of w)
width_is W32 = inl refl
width_is W64 = inr refl

-- ---- from a run to the encoder's answer

-- an answer to the low bits is an answer to the value
pub encoded_low : (w v : ℕ) (a : Said LogicalImm) → Encoded w (v % 2 ^ w) a → Encoded w v a
encoded_low w v (ok f) h = rw (mod-mod v (2 ^ w)) at h
encoded_low w v (no k) h = rw (mod-mod v (2 ^ w)) at h

pub turned : {w v : ℕ} → IsWidth w → v < 2 ^ w → v % 2 ≡ 1 → Evened w v (Ones w - v)
turned {w} {v} ww h odd =
    let one = ones_mod ww in
    record { same = λ q. absurd (omega arith); other = λ q. refl; even = omega arith; small = omega arith }

module _ {w v : ℕ} (ww : IsWidth w) (small : v < 2 ^ w) where
  pub even_answer : {e p l : ℕ} → IsRun w v e p l → Encoded w v (ok (spelling e l (e - p)))
  even_answer {e} {p} {l} h =
      let t = masks.run_even ww h in
      let e_is = (spelt l h.element h.some (omega arith)).e_is in
      (ww, record { legal = t.0.legal; mask = t.1 ∙ sym (mod-eq_of_lt small) }, t.0.turned, sym e_is)

  pub odd_answer : {e p l : ℕ} → IsRun w (Ones w - v) e p l → Encoded w v (ok (spelling e (e - l) (e - p - l)))
  odd_answer {e} {p} {l} h =
      let t = masks.run_odd ww h in
      let e_is = (spelt (e - l) h.element (omega arith) (omega arith)).e_is in
      (ww, record { legal = t.0.legal; mask = omega (arith, t.1) ∙ sym (mod-eq_of_lt small) }, t.0.turned, sym e_is)

  pub no_answer : {x : ℕ} → Evened w v x → ((e p l : ℕ) → IsRun w x e p l → ⊥) → Encoded w v (no 3)
  no_answer {x} t none = inr (
    refl,
    ww,
    λ n s r h.
        let a = rw (h.mask ∙ mod-eq_of_lt small) at (shape ww h.legal) in
        ⊎_elim
        (λ (k : v % 2 ≡ 0). none _ _ _ (rw (← t.same k) at (a.even k)))
        (λ (k : v % 2 ≡ 1). none _ _ _ (rw (← t.other k) at (a.odd k)))
        (parity v),
  )

-- ---- width 32 by way of width 64: the value stands twice

module _ (v : ℕ) (small : v < 2 ^ 32) where
  twice : v * 4294967297 % 2 ^ 64 ≡ v * 4294967297
  twice = mod-eq_of_lt (omega arith)

  -- fields that decode to v at 32 decode to v twice at 64
  up : (n s r : ℕ) → Decodes 32 n s r (v % 2 ^ 32) → Decodes 64 n s r (v * 4294967297 % 2 ^ 64)
  up n s r h = record { legal = masks.wider h.legal; mask = rw (masks.doubled_mask n s r h.legal, h.mask, mod-eq_of_lt small) (sym twice) }

  pub narrow_fields : (f : LogicalImm) → Encoded 64 (v * 4294967297) (ok f) → f.n ≡ 0 → Encoded 32 v (ok f)
  narrow_fields f a z =
      let h = masks.narrower a.1.legal z in
      let same : wmask 32 f.n f.s f.r * 4294967297 ≡ v * 4294967297 = sym (masks.doubled_mask _ _ _ h) ∙ a.1.mask ∙ twice in
      (inl refl, record { legal = h; mask = omega arith ∙ sym (mod-eq_of_lt small) }, a.2, a.3)

  pub narrow_long : (f : LogicalImm) → Encoded 64 (v * 4294967297) (ok f) → (f.n ≡ 0 → ⊥) → Encoded 32 v (no 3)
  narrow_long f a z = inr (
    refl,
    inl refl,
    λ n s r h.
        let b = up n s r h in
        let t = same_fields a.0 a.1.legal b.legal (a.1.mask ∙ sym b.mask) in
        z (t.0 ∙ h.legal.narrow refl),
  )

  pub narrow_none : (k : ℕ) → Encoded 64 (v * 4294967297) (no k) → Encoded 32 v (no k)
  narrow_none k a =
      ⊎_elim
      (λ b. absurd (b.1 (inr refl)))
      (λ b. inr (b.0, inl refl, λ n s r h. b.2 n s r (up n s r h)))
      a
