-- What is asked of decoding and normalising, in the words of the request, over the width; then at 32 and 64. `Encoded`, `Decoded` and `Normal` are what
-- the entries promise. Assumes nothing.
use mathlib.Core.Path.{◌≡◌, refl, sym, ap, subst⁻¹}
use mathlib.Core.Logic.{inl, inr}
use Prim.Native.Nat.{ℕ, ◌%◌}
use native.Mathlib.Nat.{mod-mod}
use Rattle.arm.specs.BitMasks.{IsWidth, wmask, esize}
use Rattle.words.specs.Said.{Said, ok}
use Rattle.logical.specs.Answer.{fields, Encoded}
use Rattle.logical.specs.declared.LogicalImm.{LogicalImm}
use Rattle.logical.proofs.Laws.{encoded_one}
use Rattle.logical_decoder.specs.Answer.{Decoded, Normal}
use Rattle.logical_decoder.proofs.Laws.{normal_one, reduced, again}

pub record Demands (w : ℕ) : Type 0 where
  -- decoding and encoding again gives the same N and S, and R reduced by the element length
  pub decode-encode : (n s r m : ℕ) (a : Said LogicalImm) → Decoded w n s r (ok m) → Encoded w m a → a ≡ ok (fields n s (r % esize n s))
  -- normalising twice changes nothing more
  pub normalise_twice : (n s r : ℕ) (f : LogicalImm) (a : Said LogicalImm) → Normal w n s r (ok f) → Normal w f.n f.s f.r a → a ≡ ok f

module _ (w : ℕ) (ww : IsWidth w) where
  twice : (n s r : ℕ) (f : LogicalImm) (a : Said LogicalImm) → Normal w n s r (ok f) → Normal w f.n f.s f.r a → a ≡ ok f
  twice n s r f a h k =
      let legal = (reduced {m = wmask w n s r} (record { legal = h.1; mask = refl })).legal in
      let same : Normal w n s (r % esize n s) (ok (fields n s (r % esize n s))) = (ww, legal, ap (fields n s) (sym (mod-mod r (esize n s)))) in
      normal_one w f.n f.s f.r a (ok f) k (subst⁻¹ (λ (g : LogicalImm). Normal w g.n g.s g.r (ok g)) h.2 same)

  pub demands : Demands w
  demands = record {
    decode-encode = λ n s r m a d h. encoded_one w m a _ h (again w n s r m d);
    normalise_twice = twice;
  }

-- the length is fixed by N and S as they were asked, whatever R
pub normal_length : (w n s r : ℕ) (f : LogicalImm) → Normal w n s r (ok f) → f.length ≡ esize n s
normal_length w n s r f h = ap (λ (g : LogicalImm). g.length) h.2

pub demands_32 : Demands 32
demands_32 = demands 32 (inl refl)

pub demands_64 : Demands 64
demands_64 = demands 64 (inr refl)
