-- A script's run is as is promised, over both disks; and so the shipped program is
use Rattle.life_cli.proofs.Names.{◌≡◌, ◌⊎◌, ◌∷◌, ◌++◌, ℕ, List, [], Option, Some, ap, codes, inr, map, refl, NoMemory, With, filing_between, shipped_auditors}
use Rattle.life_args.specs.Words.{AreWords, IsRun, IsValue}
use Rattle.life_args.specs.declared.mode.Mode.TheVariants.{Run, Value}
use Rattle.life_app.specs.Names.{At, Measure}
use Rattle.std.specs.Prelude.{ℤ}
use Rattle.watcher_set.specs.Evidence.{a_lack}
use Rattle.watcher_set.specs.Noted.{Auditor}
use Rattle.outside_io.specs.declared.disks.Disk.{Ghosts}
use Rattle.office_state.specs.Journals.{OpensToNone}
use Rattle.program_endings.specs.Writing.{Input, Shelving, Stream}
use Rattle.program_endings.specs.Status.{status_of}
use Rattle.program_endings.specs.declared.ending.Ending.{Ending}
use Rattle.life_app.specs.Due.{IsDueEnding}
use Rattle.life_app.specs.Obeys.{Obeys}
use Rattle.life_app.specs.Reasons.{HasReason}
use Rattle.life_app.proofs.HeadlineLaws.{headline}
use Rattle.life_cli.specs.ShippedRun.{IsShipped}

-- What is seen of two values that were put into an empty list.
pub seen_of_two : {X Y : Type 0} → (see : X → Y) (none ready one two : List X) (first second : X) (a b : Y) → two ≡ one ++ second ∷ [] → one ≡ ready ++ first ∷ []
    → ready ≡ none → none ≡ [] → see first ≡ a → see second ≡ b → map see two ≡ a ∷ b ∷ []
seen_of_two see none ready one two first second a b e₁ e₂ e₃ e₄ is_a is_b = rw (e₁, e₂, e₃, e₄, is_a, is_b) refl

-- Words that are `run` and its options ask for a run.
pub asked_for : (name : List ℕ) (words options : List (List ℕ)) → words ≡ codes "run" ∷ options → IsRun options name → AreWords words (Run name)
asked_for name words options same run = rw same (refl, run)

-- And words that are `value` and its options ask for a valuation.
pub asked_to_value : (words options : List (List ℕ)) (on : ℤ) (at : At) (workers : ℕ) (name : List ℕ) (measure : Measure)
    → words ≡ codes "value" ∷ options → IsValue options on at workers name measure → AreWords words (Value on at workers name measure)
asked_to_value words options on at workers name measure same value = rw same (refl, value)

-- The auditors that were handed over are these.
module _ {D E : Type 0} (g : Ghosts D) (e : Ghosts E) (old new : D) (second kept : Option E) (words : List (List ℕ)) (input : Input) (output : Stream)
    (shelf : Shelving) (A B : Type 0) (status : ℕ) where
  pub obeys_with : (auditors others : List Auditor) → auditors ≡ others → Obeys g e old new second kept words auditors input output shelf A B status
      → Obeys g e old new second kept words others input output shelf A B status
  obeys_with auditors others same obeys = rw same at obeys

module _ {D E : Type 0} (g : Ghosts D) (e : Ghosts E) (old new : D) (second kept : E) (words : List (List ℕ)) (input : Input) (output : Stream)
    (shelf : Shelving) (A B : Type 0) (status : ℕ)
    (only_now : (disk : D) (image : List ℕ) → g.honest disk → g.left_since disk (g.clock disk) image → g.may_leave disk image)
    (obeys : Obeys g e old new (Some second) (Some kept) words shipped_auditors input output shelf A B status) where
  pub shipped : ((ending : Ending) × (status ≡ status_of ending)
      × HasReason words input output shelf (filing_between g old new) (With (filing_between e second kept)) ending)
      → ((ending : Ending) → IsDueEnding words input output shelf (filing_between g old new) (With (filing_between e second kept)) ending
      → (status ≡ status_of ending) ⊎ (status ≡ 9))
      → (g.honest new → OpensToNone (g.reads old) → g.reads new ≡ g.reads old)
      → IsShipped g e old new second kept words input output shelf A B status
  shipped reason due unopened = record {
    obeys = obeys;
    promised = λ name script options lanes basis same run whole reads given.
        headline g old new output name input shelf only_now e (Some second) (Some kept) lanes basis shipped_auditors script words A B status obeys
        (asked_for name words options same run) whole reads given;
    reason = reason;
    due = due;
    unopened = unopened;
  }

  -- where there was no memory to begin, 9 is right in every case
  pub given_up : status ≡ 9 → new ≡ old → IsShipped g e old new second kept words input output shelf A B status
  given_up nine same = shipped (NoMemory a_lack, nine, tt) (λ ending is. inr nine) (λ honest none. ap g.reads same)
