-- Equal masks have equal fields. Assumes nothing.
use mathlib.Core.Path.{◌≡◌, sym, ap, ap₂, ◌∙◌}
use mathlib.Core.Logic.{⊎_elim}
use Prim.Native.Nat.{ℕ, ◌+◌, ◌-◌, ◌%◌, ◌≤◌, ◌<◌}
use native.Mathlib.Nat.{mod-lt, mod-mod}
use native.Mathlib.Omega.{arith}
use Rattle.arm.specs.Bits.{Ones}
use Rattle.arm.specs.BitMasks.{IsWidth, Legal, wmask, esize}
use Rattle.arm.specs.Elements.{IsRun, n_of, s_of}
use Rattle.arm.proofs.Runs.{run_le, run_even, run_unique}
use Rattle.arm.proofs.Lengths.{ones_mod}
use Rattle.arm.proofs.Trailing.{le-or-lt, parity}
use Rattle.arm.proofs.Fields.{legal_fields}
use Rattle.arm.proofs.Masks as masks

-- a mask whose lowest bit is 0 is a run, and of any other the complement is
pub record Shape (w v e l q : ℕ) : Type 0 where
  pub turn : q < e
  pub even : v % 2 ≡ 0 → IsRun w v e (e - q) l
  pub odd : v % 2 ≡ 1 → IsRun w (Ones w - v) e (l - q) (e - l)
  pub small : v ≤ Ones w
  pub short : l < e

module _ {w n s r : ℕ} (ww : IsWidth w) (h : Legal w n s r) where
  pub shape : Shape w (wmask w n s r) (esize n s) (s % esize n s + 1) (r % esize n s)
  shape = ⊎_elim wrapped plain (le-or-lt (r % esize n s) (s % esize n s))
    where
      turned : r % esize n s < esize n s
      turned = mod-lt r (omega (arith, h.not-all))

      wrapped : r % esize n s ≤ s % esize n s → Shape w (wmask w n s r) (esize n s) (s % esize n s + 1) (r % esize n s)
      wrapped k =
          let sum = masks.odd_sum ww h k in
          let small : wmask w n s r ≤ Ones w = omega (arith, sum) in
          let all : wmask w n s r + (Ones w - wmask w n s r) ≡ Ones w = omega arith in
          let run = masks.odd_run ww h k _ all in
          record { turn = turned; even = λ v. absurd (omega (arith, run_even run, ones_mod ww)); odd = λ v. run; small = small; short = h.not-all }

      plain : s % esize n s < r % esize n s → Shape w (wmask w n s r) (esize n s) (s % esize n s + 1) (r % esize n s)
      plain k =
          let run = masks.even_run ww h (omega arith) in
          record { turn = turned; even = λ v. run; odd = λ v. absurd (omega (arith, run_even run)); small = run_le ww run; short = h.not-all }

pub shape_unique : {w v e l q e' l' q' : ℕ} → IsWidth w → Shape w v e l q → Shape w v e' l' q' → (e ≡ e') × (l ≡ l') × (q ≡ q')
shape_unique {w} {v} {e} {l} {q} {e'} {l'} {q'} ww a b =
    ⊎_elim
    (λ (k : v % 2 ≡ 0). let u = run_unique ww (a.even k) (b.even k) in (u.0, u.2, omega (arith, a.turn, b.turn)))
    (λ (k : v % 2 ≡ 1).
    let u = run_unique ww (a.odd k) (b.odd k) in
    let l_is : l ≡ l' = omega (arith, a.short, b.short) in
    (u.0, l_is, omega (arith, (a.odd k).up, (b.odd k).up)))
    (parity v)

-- equal masks have equal fields, but for a multiple of the element length in R
pub same_fields : {w n s r n' s' r' : ℕ} → IsWidth w → Legal w n s r → Legal w n' s' r' → wmask w n s r ≡ wmask w n' s' r'
    → (n ≡ n') × (s ≡ s') × (r % esize n s ≡ r' % esize n' s')
same_fields {w} {n} {s} {r} {n'} {s'} {r'} ww h h' q =
    let u = shape_unique ww (shape ww h) (rw (← q) at (shape ww h')) in
    let f = legal_fields h in
    let f' = legal_fields h' in
    (f.0 ∙ ap n_of u.0 ∙ sym f'.0, f.1 ∙ ap₂ s_of u.0 u.1 ∙ sym f'.1, u.2)

-- R counts only below the element length
pub turn_mask : (w n s r : ℕ) → wmask w n s (r % esize n s) ≡ wmask w n s r
unfolding wmask
turn_mask w n s r = rw (mod-mod r (esize n s))
