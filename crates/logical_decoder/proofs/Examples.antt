-- The normaliser's answer as a function that antt computes, by which document 01's example 7 is checked (examples/proofs/Table), and that example by its
-- promise. Assumes nothing.
use mathlib.Core.Path.{◌≡◌, refl}
use Prim.Native.Nat.{ℕ}
use native.Mathlib.Omega.{arith}
use lib.Dec.{lit<, lit≤}
use Rattle.arm.specs.BitMasks.{IsWidth, esize, wmask}
use Rattle.words.specs.Said.{Said, ok}
use Rattle.logical.specs.Answer.{fields}
use Rattle.logical.specs.declared.LogicalImm.{LogicalImm}
use Rattle.logical.proofs.Model.{encode_of, the_answer}
use Rattle.logical_decoder.specs.Answer.{Decoded, Normal}
use Rattle.logical_decoder.proofs.Laws.{again}

-- decoded, then encoded
abbrev pub normal_of_lem : ℕ → ℕ → ℕ → ℕ → Said LogicalImm
normal_of_lem w n s r = encode_of w (wmask w n s r)

-- what the normaliser gives is what is computed, and it gives example 7's at both widths
pub the_normal : (w n s r : ℕ) (f : LogicalImm) → Normal w n s r (ok f) → ok f ≡ normal_of_lem w n s r
the_normal w n s r f h =
    let d : Decoded w n s r (ok (wmask w n s r)) = (h.0, record { legal = h.1; mask = refl }) in
    rw h.2 (the_answer w (wmask w n s r) (ok (fields n s _)) (again w n s r (wmask w n s r) d))

pub example_7 : (w : ℕ) → IsWidth w → Normal w 0 60 5 (ok (record { n = 0; s = 60; r = 1; length = 2 }))
unfolding esize
example_7 w ww = (ww, record { n_bits = omega arith; s_bits = omega arith; r_bits = omega arith; some_len = lit≤ tt; not-all = lit< tt; narrow = λ q. refl }, refl)
