-- The shipped program, from its start to its end
use Rattle.std.specs.Prelude.{◌≡◌, ◌⊎◌, ℕ, List, ◌∷◌, Some, codes}
use Rattle.basis_book.specs.Dated.{Dated}
use Rattle.basis_shelf.specs.Bases.{IsBasis}
use Rattle.command_csv.specs.Reads.{Reads}
use Rattle.life_args.specs.Words.{IsRun}
use Rattle.life_cli.specs.Names.{Opens, OpensToNone, Ghosts, Input, IsWholeInput, Shelving, Stream, IsGivenBasis, IsPromised, IsUnrun, Obeys, With, filing_between}
use Rattle.policy_types.specs.declared.script.Lane.{Lane}
use Rattle.program_endings.specs.Status.{status_of}
use Rattle.program_endings.specs.declared.ending.Ending.{Ending}
use Rattle.life_app.specs.Due.{IsDueEnding}
use Rattle.life_app.specs.Reasons.{HasReason}
use Rattle.life_app.specs.TableReserves.{table_reserves}
use Rattle.life_app.specs.Names.{run_wording}
use Rattle.life_cli.specs.Shipped.{shipped_auditors}

-- The arguments were obeyed, over two disks; and a script's run is as promised, or failed and added no command. The
-- latter is about arguments that ask for a run, the whole input, the lanes that it reads as, and the basis that it is
-- given.
pub record IsShipped {D E : Type 0} (g : Ghosts D) (e : Ghosts E) (old new : D) (second kept : E) (words : List (List ℕ))
    (input : Input) (output : Stream) (shelf : Shelving) (InputStays ShelfStays : Type 0) (status : ℕ) : Type 0 where
  pub obeys : Obeys g e old new (Some second) (Some kept) words shipped_auditors input output shelf InputStays ShelfStays status
  pub promised : (name script : List ℕ) (options : List (List ℕ)) (lanes : List Lane) (basis : List Dated)
      → words ≡ codes "run" ∷ options → IsRun options name → IsWholeInput input script → Reads script lanes
      → IsGivenBasis IsBasis lanes name shelf basis
      → IsPromised g Opens run_wording table_reserves old new lanes basis shipped_auditors output status
      ⊎ IsUnrun g Opens old new name input output shelf status
  -- the status has its reason
  pub reason : (ending : Ending) × (status ≡ status_of ending)
      × HasReason words input output shelf (filing_between g old new) (With (filing_between e second kept)) ending
  -- and an ending that is due comes about, unless memory is refused
  pub due : (ending : Ending)
      → IsDueEnding words input output shelf (filing_between g old new) (With (filing_between e second kept)) ending
      → (status ≡ status_of ending) ⊎ (status ≡ 9)
  -- a file that opens to no commands reads as before, if its disk comes back honest
  pub unopened : g.honest new → OpensToNone (g.reads old) → g.reads new ≡ g.reads old
