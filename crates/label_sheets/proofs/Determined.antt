-- Each public entry's contract allows one answer, and one sheet or run after it. Beside it: the contract's own clauses, and their reading, are one equation,
-- which says what a definition makes of the arguments. Assumes nothing.
use mathlib.Core.Path.{◌≡◌, refl}
use mathlib.Core.List.{List}
use Prim.Native.Nat.{ℕ}
use seplogic.Ra.Ura.{Ura}
use base.Logic.{SProp}
use prog.Memory.{Memory}
use prog.Routine.{Routine}
use types.Logic.{Logic}
use contract.Lifetimes.{Lfts}
use contract.Monad.{Fun, fact}
use Rattle.std.proofs.Common.{Bor, MutBor}
use Rattle.words.specs.declared.Place.{Place}
use Rattle.words.proofs.Answers.{said_all}
use Rattle.words.proofs.Contracts.{OneWrite, one_pair}
use Rattle.labels.specs.declared.Use.{Use}
use Rattle.labels.specs.Sheet.{use_record, use_of, finish_of}
use Rattle.std.specs.Prelude.{Result}
use Rattle.words.specs.declared.Refusal.{Refusal}
use Rattle.words.specs.Answer.{said}
use Rattle.label_sheets.specs.contracts.use_label as use_label_contract
use Rattle.label_sheets.specs.contracts.finish as finish_contract
use Rattle.label_sheets.proofs.use_label.Reads as use_label
use Rattle.label_sheets.proofs.finish.Reads as finish

-- a reading is this claim, whatever the lifetimes, the arguments, the answer and the arguments at exit
module _ {K : Type 0} {A R E : K → Type 0} where
  abbrev pub Promises : ((k : K) → A k → R k → E k → Type 0) → ((k : K) → A k → R k → E k → Type 0) → Type 1
  Promises Post Claim = (k : K) (a : A k) (r : R k) (x : E k) → Post k a r x ≡ Claim k a r x

-- ---- a use

module _ (uses : List Use) (n : ℕ) (labels words : List ℕ) (label : ℕ) (at : Place) (format : ℕ) where
  abbrev pub Used : (Result ℕ Refusal) → List Use → Type 0
  Used c uses' = (said c, uses') ≡ use_of labels words uses n at (use_record label at format)

pub use_label_reads : Promises use_label.Post
    (λ k (uses, (n, (labels, (words, (label, (at, (format, _))))))) c x. Used uses.now n labels.now words.now label at format c x.0.now)
use_label_reads k a c x = refl

module _ (uses : MutBor (List Use)) (n : ℕ) (labels words : Bor (List ℕ)) (label : ℕ) (at : Place) (format : ℕ) where
  pub use_label_promised : {M : Type 1} {𝓤 : Ura M} (𝓛 : Logic 𝓤) (mem : Memory → SProp 𝓤) (run : Routine → Fun 𝓤) (κs : Lfts 3) (c : (Result ℕ Refusal)) (uses' : MutBor (List Use))
      → (use_label_contract.clauses 𝓛 mem run κs (uses, (n, (labels, (words, (label, (at, (format, tt)))))))).ensures tt c (uses', (n, (labels, (words, (label, (at, (format, tt)))))))
      ≡ fact 𝓤 (Used uses.now n labels.now words.now label at format c uses'.now)
  use_label_promised 𝓛 mem run κs c uses' = refl

  pub use_label_one : (c d : (Result ℕ Refusal)) (uses' uses'' : List Use) → Used uses.now n labels.now words.now label at format c uses'
      → Used uses.now n labels.now words.now label at format d uses'' → (c ≡ d) × (uses' ≡ uses'')
  use_label_one c d uses' uses'' p q = let e = one_pair p q in (said_all c d e.0, e.1)

pub use_label_determined : OneWrite use_label.Post (λ k x. x.0.now)
use_label_determined k a r s x y p q = let e = one_pair p q in (said_all r s e.0, e.1)

-- ---- finishing

module _ (uses : List Use) (n : ℕ) (labels words : List ℕ) (at : Place) where
  abbrev pub Finishes : (Result ℕ Refusal) → List ℕ → Type 0
  Finishes c words' = (said c, words') ≡ finish_of at labels words uses n

pub finish_reads : Promises finish.Post
    (λ k (uses, (n, (labels, (words, (at, _))))) c x. Finishes uses.now n labels.now words.now at c x.1.1.1.0.now)
finish_reads k a c x = refl

module _ (uses : Bor (List Use)) (n : ℕ) (labels : Bor (List ℕ)) (words : MutBor (List ℕ)) (at : Place) where
  pub finish_promised : {M : Type 1} {𝓤 : Ura M} (𝓛 : Logic 𝓤) (mem : Memory → SProp 𝓤) (run : Routine → Fun 𝓤) (κs : Lfts 3) (c : (Result ℕ Refusal)) (words' : MutBor (List ℕ))
      → (finish_contract.clauses 𝓛 mem run κs (uses, (n, (labels, (words, (at, tt)))))).ensures tt c (uses, (n, (labels, (words', (at, tt)))))
      ≡ fact 𝓤 (Finishes uses.now n labels.now words.now at c words'.now)
  finish_promised 𝓛 mem run κs c words' = refl

  pub finish_one : (c d : (Result ℕ Refusal)) (words' words'' : List ℕ) → Finishes uses.now n labels.now words.now at c words'
      → Finishes uses.now n labels.now words.now at d words'' → (c ≡ d) × (words' ≡ words'')
  finish_one c d words' words'' p q = let e = one_pair p q in (said_all c d e.0, e.1)

pub finish_determined : OneWrite finish.Post (λ k x. x.1.1.1.0.now)
finish_determined k a r s x y p q = let e = one_pair p q in (said_all r s e.0, e.1)
