-- Each entry's contract allows one answer, and one table, sheet or run after it. Beside it: the clauses of a contract over a sheet, and their reading, are one
-- equation, which says what a definition makes of the arguments. Assumes nothing.
use mathlib.Core.Path.{◌≡◌, refl}
use mathlib.Core.List.{List}
use Prim.Native.Nat.{ℕ}
use seplogic.Ra.Ura.{Ura}
use base.Logic.{SProp}
use prog.Memory.{Memory}
use prog.Routine.{Routine}
use types.Logic.{Logic}
use contract.Lifetimes.{Lfts}
use contract.Monad.{Fun, fact}
use Rattle.std.proofs.Common.{Bor, MutBor}
use Rattle.words.specs.Place.{place_at}
use Rattle.words.proofs.Contracts.{OneWrite, one_pair}
use Rattle.labels.specs.declared.Use.{Use}
use Rattle.label_sheets.proofs.Determined.{Promises}
use Rattle.host_labels.specs.Number.{host_use, host_finish}
use Rattle.host_labels.proofs.vaimalofo_bind_label.Reads as bind_label
use Rattle.host_labels.specs.contracts.vaimalofo_use_label as use_label_contract
use Rattle.host_labels.specs.contracts.vaimalofo_finish_labels as finish_labels_contract
use Rattle.host_labels.proofs.vaimalofo_use_label.Reads as use_label
use Rattle.host_labels.proofs.vaimalofo_finish_labels.Reads as finish_labels

pub bind_label_determined : OneWrite bind_label.Post (λ k x. x.0.now)
bind_label_determined k a r s x y p q = one_pair p q

-- ---- a use

module _ (uses : List Use) (count label format : ℕ) (labels words : List ℕ) (base_address position : ℕ) where
  abbrev pub Used : ℕ → List Use → Type 0
  Used answered uses' = (answered, uses') ≡ host_use labels words uses count label (place_at base_address position) format

pub use_label_reads : Promises use_label.Post
    (λ k (uses, (count, (label, (format, (labels, (words, (base_address, (position, _)))))))) answered x.
    Used uses.now count label format labels.now words.now base_address position answered x.0.now)
use_label_reads k a answered x = refl

module _ (uses : MutBor (List Use)) (count label format : ℕ) (labels words : Bor (List ℕ)) (base_address position : ℕ) where
  pub use_label_promised : {M : Type 1} {𝓤 : Ura M} (𝓛 : Logic 𝓤) (mem : Memory → SProp 𝓤) (run : Routine → Fun 𝓤) (κs : Lfts 3) (answered : ℕ)
      (uses' : MutBor (List Use))
      → (use_label_contract.clauses 𝓛 mem run κs (uses, (count, (label, (format, (labels, (words, (base_address, (position, tt))))))))).ensures tt answered
      (uses', (count, (label, (format, (labels, (words, (base_address, (position, tt))))))))
      ≡ fact 𝓤 (Used uses.now count label format labels.now words.now base_address position answered uses'.now)
  use_label_promised 𝓛 mem run κs answered uses' = refl

  pub use_label_one : (r s : ℕ) (uses' uses'' : List Use) → Used uses.now count label format labels.now words.now base_address position r uses'
      → Used uses.now count label format labels.now words.now base_address position s uses'' → (r ≡ s) × (uses' ≡ uses'')
  use_label_one r s uses' uses'' p q = one_pair p q

pub use_label_determined : OneWrite use_label.Post (λ k x. x.0.now)
use_label_determined k a r s x y p q = one_pair p q

-- ---- finishing

module _ (uses : List Use) (count : ℕ) (labels words : List ℕ) (base_address : ℕ) where
  abbrev pub Finishes : ℕ → List ℕ → Type 0
  Finishes answered words' = (answered, words') ≡ host_finish labels words uses count (place_at base_address 0)

pub finish_labels_reads : Promises finish_labels.Post
    (λ k (uses, (count, (labels, (words, (base_address, _))))) answered x.
    Finishes uses.now count labels.now words.now base_address answered x.1.1.1.0.now)
finish_labels_reads k a answered x = refl

module _ (uses : Bor (List Use)) (count : ℕ) (labels : Bor (List ℕ)) (words : MutBor (List ℕ)) (base_address : ℕ) where
  pub finish_labels_promised : {M : Type 1} {𝓤 : Ura M} (𝓛 : Logic 𝓤) (mem : Memory → SProp 𝓤) (run : Routine → Fun 𝓤) (κs : Lfts 3) (answered : ℕ)
      (words' : MutBor (List ℕ))
      → (finish_labels_contract.clauses 𝓛 mem run κs (uses, (count, (labels, (words, (base_address, tt)))))).ensures tt answered
      (uses, (count, (labels, (words', (base_address, tt)))))
      ≡ fact 𝓤 (Finishes uses.now count labels.now words.now base_address answered words'.now)
  finish_labels_promised 𝓛 mem run κs answered words' = refl

  pub finish_labels_one : (r s : ℕ) (words' words'' : List ℕ) → Finishes uses.now count labels.now words.now base_address r words'
      → Finishes uses.now count labels.now words.now base_address s words'' → (r ≡ s) × (words' ≡ words'')
  finish_labels_one r s words' words'' p q = one_pair p q

pub finish_labels_determined : OneWrite finish_labels.Post (λ k x. x.1.1.1.0.now)
finish_labels_determined k a r s x y p q = one_pair p q
