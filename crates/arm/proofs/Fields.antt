-- N and S spell an element length and a run length, each pair in one way. Assumes nothing.
use mathlib.Core.Path.{◌≡◌, refl, sym, ap, subst⁻¹, ◌∙◌}
use mathlib.Core.Bool.{Bool, true, false, cond}
use mathlib.Core.Logic.{⊎_elim}
use Prim.Native.Nat.{ℕ, zero, suc, ◌+◌, ◌-◌, ◌*◌, ◌%◌, ◌^◌, ◌≤◌, ◌<◌}
use native.Mathlib.Nat.{one-mul, lt_of_le_of_lt, pow-suc, eq-zero-or-pos, mod-lt, eq-or-lt_of_le, le_trans, lt_of_lt_of_le, le_of_suc-le-suc}
use native.Mathlib.Omega.{arith}
use borrow.Author.Tests.{le-leb, lt-leb, leb-true, leb-false}
use lib.Dec.{leb}
use lib.Count.{count_leading_zeros, leading_top}
use lib.Pow.{pow_mono, pow_pos, shl_exact}
use Rattle.arm.specs.BitMasks.{highest_set_bit, len, esize, Legal, IsWidth}
use Rattle.arm.specs.Elements.{Element, n_of, s_of}
use Rattle.arm.proofs.Lengths.{at_each}
use Rattle.arm.proofs.Trailing.{pow_lt_back}

-- the highest set bit is the j with 2 ^ j ≤ x < 2 ^ (j + 1)
pub highest_is : (k j x : ℕ) → j ≤ k → 2 ^ j ≤ x → x < 2 ^ suc j → highest_set_bit k x ≡ j
unfolding highest_set_bit
highest_is zero j x h lo hi = omega arith
highest_is (suc k) j x h lo hi =
    ⊎_elim
    (λ (e : j ≡ suc k). rw (le-leb (2 ^ suc k) x (rw e at lo)) (sym e))
    (λ (b : j < suc k). rw (lt-leb (2 ^ suc k) x (lt_of_lt_of_le hi (pow_mono b))) (highest_is k j x (le_of_suc-le-suc b) lo hi))
    (eq-or-lt_of_le h)

-- the zeros above it, in 32 bits
pub highest_place : (x : ℕ) → 2 ≤ x → x < 128 → count_leading_zeros 32 x + suc (highest_set_bit 6 x) ≡ 32
highest_place x lo hi =
    let t = leading_top 32 x (omega arith) (omega arith) in
    let low : t.0 < 7 = pow_lt_back t.0 7 (lt_of_le_of_lt t.2 hi) in
    rw (highest_is 6 t.0 x (omega arith) t.2 t.3) t.1

-- and the power of two there, as code shifts it
pub highest_power : (x : ℕ) → 2 ≤ x → x < 128 → 1 * 2 ^ (31 - count_leading_zeros 32 x) % 2 ^ 32 ≡ 2 ^ highest_set_bit 6 x
highest_power x lo hi =
    let at = highest_place x lo hi in
    let is : 31 - count_leading_zeros 32 x ≡ highest_set_bit 6 x = omega arith in
    rw is (shl_exact 1 (highest_set_bit 6 x) 32 (omega arith) (omega arith) ∙ one-mul (2 ^ highest_set_bit 6 x))

-- and every x from 1 on lies so
pub record At (k x j : ℕ) : Type 0 where
  pub in_reach : j ≤ k
  pub low : 2 ^ j ≤ x
  pub high : x < 2 ^ suc j

highest_at : (k x : ℕ) → 1 ≤ x → x < 2 ^ suc k → At k x (highest_set_bit k x)
unfolding highest_set_bit
highest_at zero x lo hi = record { in_reach = omega arith; low = lo; high = hi }
highest_at (suc k) x lo hi = go (highest_at k x lo) (leb (2 ^ suc k) x) refl
  where
    go : (x < 2 ^ suc k → At k x (highest_set_bit k x)) → (b : Bool) → leb (2 ^ suc k) x ≡ b → At (suc k) x (cond b (suc k) (highest_set_bit k x))
    go ih true e = record { in_reach = omega arith; low = leb-true _ _ e; high = hi }
    go ih false e = let a = ih (leb-false _ _ e) in record { in_reach = omega (arith, a.in_reach); low = a.low; high = a.high }

-- ---- from an element length and a run length to the fields, and back

pub record Spelt (e l n s : ℕ) : Type 0 where
  pub n_bits : n ≤ 1
  pub s_bits : s ≤ 63
  pub some_len : 1 ≤ len n s
  pub e_is : esize n s ≡ e
  pub l_is : s % e + 1 ≡ l

abbrev Spells : ℕ → Type 0
Spells j = (l : ℕ) → 1 ≤ l → l < 2 ^ j → Spelt (2 ^ j) l (n_of (2 ^ j)) (s_of (2 ^ j) l)

spell : (j l n s : ℕ) → 1 ≤ j → j ≤ 6 → n ≤ 1 → s ≤ 63 → 2 ^ j ≤ n * 64 + (63 - s) → n * 64 + (63 - s) < 2 ^ suc j → s % 2 ^ j + 1 ≡ l → Spelt (2 ^ j) l n s
unfolding esize len
spell j l n s h k hn hs lo hi e =
    let is : len n s ≡ j = highest_is 6 j (n * 64 + (63 - s)) k lo hi in
    record { n_bits = hn; s_bits = hs; some_len = rw is h; e_is = ap (λ (i : ℕ). 2 ^ i) is; l_is = e }

spells : (j : ℕ) → 1 ≤ j → j ≤ 6 → Spells j
spells =
    at_each Spells
    (λ l a b. spell 1 l _ _ (omega arith) (omega arith) (omega arith) (omega arith) (omega arith) (omega arith) (omega arith))
    (λ l a b. spell 2 l _ _ (omega arith) (omega arith) (omega arith) (omega arith) (omega arith) (omega arith) (omega arith))
    (λ l a b. spell 3 l _ _ (omega arith) (omega arith) (omega arith) (omega arith) (omega arith) (omega arith) (omega arith))
    (λ l a b. spell 4 l _ _ (omega arith) (omega arith) (omega arith) (omega arith) (omega arith) (omega arith) (omega arith))
    (λ l a b. spell 5 l _ _ (omega arith) (omega arith) (omega arith) (omega arith) (omega arith) (omega arith) (omega arith))
    (λ l a b. spell 6 l _ _ (omega arith) (omega arith) (omega arith) (omega arith) (omega arith) (omega arith) (omega arith))

pub spelt : {w e : ℕ} (l : ℕ) → Element w e → 1 ≤ l → l < e → Spelt e l (n_of e) (s_of e l)
spelt {w} {e} l h a b = subst⁻¹ (λ (k : ℕ). l < k → Spelt k l (n_of k) (s_of k l)) h.is (spells h.log h.log_low h.log_high l a) b

abbrev Reads : ℕ → Type 0
Reads j = (n s : ℕ) → n ≤ 1 → s ≤ 63 → 2 ^ j ≤ n * 64 + (63 - s) → n * 64 + (63 - s) < 2 ^ suc j → (n ≡ n_of (2 ^ j)) × (s ≡ s_of (2 ^ j) (s % 2 ^ j + 1))

reads_at : (j : ℕ) → 1 ≤ j → j ≤ 6 → Reads j
reads_at = at_each Reads (omega arith) (omega arith) (omega arith) (omega arith) (omega arith) (omega arith)

-- ---- the fields that Arm accepts

pub top : (n s : ℕ) → n ≤ 1 → s ≤ 63 → 1 ≤ len n s → At 6 (n * 64 + (63 - s)) (len n s)
unfolding len highest_set_bit
top n s hn hs h = go (n * 64 + (63 - s)) (omega arith) h
  where
    go : (x : ℕ) → x < 128 → 1 ≤ highest_set_bit 6 x → At 6 x (highest_set_bit 6 x)
    go zero hi h = absurd (omega arith)
    go (suc x) hi h = highest_at 6 (suc x) (omega arith) hi

-- an element length, and the fields from it
pub legal_element : {w n s r : ℕ} → IsWidth w → Legal w n s r → Element w (esize n s)
unfolding esize
legal_element {w} {n} {s} {r} ww h =
    let a = top n s h.n_bits h.s_bits h.some_len in
    record { log = len n s; log_low = h.some_len; log_high = a.in_reach; is = refl; fits = ⊎_elim (λ (e : w ≡ 32). narrow e a) (λ (e : w ≡ 64). wide e a) ww }
  where
    wide : w ≡ 64 → At 6 (n * 64 + (63 - s)) (len n s) → 2 ^ len n s ≤ w
    wide e a = le_trans (pow_mono a.in_reach) (omega arith)

    narrow : w ≡ 32 → At 6 (n * 64 + (63 - s)) (len n s) → 2 ^ len n s ≤ w
    narrow e a = ⊎_elim
        (λ (b : len n s ≡ 6). absurd (omega (arith, h.narrow e, rw b at a.low)))
        (λ (b : len n s < 6). le_trans (pow_mono (le_of_suc-le-suc b)) (omega arith))
        (eq-or-lt_of_le a.in_reach)

pub legal_fields : {w n s r : ℕ} → Legal w n s r → (n ≡ n_of (esize n s)) × (s ≡ s_of (esize n s) (s % esize n s + 1))
unfolding esize
legal_fields {w} {n} {s} h =
    let a = top n s h.n_bits h.s_bits h.some_len in
    reads_at (len n s) h.some_len a.in_reach n s h.n_bits h.s_bits a.low a.high

pub not_short : {w n s r : ℕ} → Legal w n s r → n * 64 + (63 - s) < 2 → ⊥
not_short {w} {n} {s} h k =
    let two : 2 ^ 1 ≤ 2 ^ len n s = pow_mono h.some_len in
    omega (arith, (top n s h.n_bits h.s_bits h.some_len).low)

pub legal_of : {w n s r : ℕ} → n ≤ 1 → s ≤ 63 → r ≤ 63 → 2 ≤ n * 64 + (63 - s) → (s % esize n s + 1 ≡ esize n s → ⊥) → esize n s ≤ w → Legal w n s r
unfolding esize len
legal_of {w} {n} {s} {r} hn hs hr two no_all fits =
    let a = highest_at 6 (n * 64 + (63 - s)) (omega arith) (omega arith) in
    let some : 1 ≤ len n s = ⊎_elim (λ (z : len n s ≡ 0). absurd (omega (arith, rw z at a.high))) (λ (p : 0 < len n s). p) (eq-zero-or-pos (len n s)) in
    let low : s % 2 ^ len n s < 2 ^ len n s = mod-lt s (pow_pos (len n s)) in
    record { n_bits = hn; s_bits = hs; r_bits = hr; some_len = some; not-all = omega (arith, no_all); narrow = λ (q : w ≡ 32). omega (arith, a.high, pow-suc 2 (len n s)) }
