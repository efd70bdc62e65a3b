-- What a valuation has at hand, before and after it reads and values
use Rattle.snapshot_value.proofs.Names.{◌≡◌, ◌≤◌, ℤ, List, [], ◌++◌, length, arith, ap, sym, ◌∙◌, subst, append-nil, append_assoc, Vec, Global, AllByRecursion, with_items_is, Dated, AreAsBefore, IsAsBefore, Policy, IsSound, Measure, Row, AreSmallRows, IsSheetReady, HasMade, GivesRow, IsReadyWorker, TakesPolicy, ValuesBy}
use Rattle.std.specs.Vec.{with_items}
use Rattle.std.proofs.lemmas.Slice.Zip.{AllZip-long}
use Rattle.snapshot_value.specs.declared.worker.Worker.{Worker}
use Rattle.snapshot_value.specs.declared.worksheet.Worksheet.{Worksheet}
use Rattle.snapshot_value.proofs.RowSteps.{all_append, rows_more, rows_none}
use Rattle.snapshot_value.proofs.WorkerSteps.{by_still, ready_still}

all_none : {X : Type 0} (P : X → Type 0) (xs : List X) → xs ≡ [] → AllByRecursion P xs
all_none P xs none = subst (AllByRecursion P) (sym none) tt

-- the workers, written back into the memory where they stand
pub still_with : (workers : Vec Worker Global) (new : List Worker) → AreAsBefore TakesPolicy GivesRow workers.items new
    → AreAsBefore TakesPolicy GivesRow workers.items (with_items workers new).items
still_with workers new still =
    rw (with_items_is workers new (AllZip-long (IsAsBefore TakesPolicy GivesRow) workers.items new still ∙ sym workers.ok.0)) still

-- after they were valued, policies can be read and valued again
pub can_valued : (old new : Worksheet) → IsSheetReady old → AreAsBefore TakesPolicy GivesRow old.workers.items new.workers.items → new.read.items ≡ []
    → IsSheetReady new
can_valued old new can still unread =
    let many = AllZip-long (IsAsBefore TakesPolicy GivesRow) old.workers.items new.workers.items still in record {
      some = omega (arith, many, can.some);
      few = omega (arith, many, can.few);
      ready = ready_still old.workers.items new.workers.items still can.ready;
      sound = all_none IsSound new.read.items unread;
    }

module _ (basis : List Dated) (on : ℤ) (measure : Measure) where
  -- nothing yet
  pub made_none : (sheet : Worksheet) → 1 ≤ length sheet.workers.items → length sheet.workers.items ≤ 64
      → AllByRecursion IsReadyWorker sheet.workers.items → AllByRecursion (ValuesBy basis on measure) sheet.workers.items
      → sheet.read.items ≡ [] → sheet.rows.items ≡ [] → HasMade basis on measure [] sheet
  made_none sheet some few ready by unread unmade = record {
    can = record { some = some; few = few; ready = ready; sound = all_none IsSound sheet.read.items unread };
    by = by;
    valued = [];
    all = sym unread;
    rows = subst (AreSmallRows basis on measure []) (sym unmade) (rows_none basis on measure);
  }

  module _ (policies : List Policy) (old new : Worksheet) (made : HasMade basis on measure policies old) where
    -- more was read
    pub made_put : (part : List Policy) → AllByRecursion IsSound part → new.workers.items ≡ old.workers.items → new.rows.items ≡ old.rows.items
        → new.read.items ≡ old.read.items ++ part → HasMade basis on measure (policies ++ part) new
    made_put part sound same rows longer = record {
      can = record {
        some = subst (λ (ws : List Worker). 1 ≤ length ws) (sym same) made.can.some;
        few = subst (λ (ws : List Worker). length ws ≤ 64) (sym same) made.can.few;
        ready = subst (AllByRecursion IsReadyWorker) (sym same) made.can.ready;
        sound = subst (AllByRecursion IsSound) (sym longer) (all_append IsSound old.read.items part made.can.sound sound);
      };
      by = subst (AllByRecursion (ValuesBy basis on measure)) (sym same) made.by;
      valued = made.valued;
      all =
          ap (λ (ps : List Policy). ps ++ part) made.all ∙ append_assoc made.valued old.read.items part
          ∙ ap (λ read. made.valued ++ read) (sym longer);
      rows = subst (AreSmallRows basis on measure made.valued) (sym rows) made.rows;
    }

    -- what was read is valued
    pub made_valued : (values : List Row) → AreAsBefore TakesPolicy GivesRow old.workers.items new.workers.items → AreSmallRows basis on measure old.read.items values
        → new.read.items ≡ [] → new.rows.items ≡ old.rows.items ++ values → HasMade basis on measure policies new
    made_valued values still are unread longer = record {
      can = can_valued old new made.can still unread;
      by = by_still basis on measure old.workers.items new.workers.items still made.by;
      valued = policies;
      all = sym (ap (λ read. policies ++ read) unread ∙ append-nil policies);
      rows =
          subst (AreSmallRows basis on measure policies) (sym longer)
          (subst (λ ps. AreSmallRows basis on measure ps (old.rows.items ++ values)) (sym made.all)
          (rows_more basis on measure made.valued old.read.items old.rows.items values made.rows are));
    }

  -- all that was read has its row
  pub made_all : (policies : List Policy) (sheet : Worksheet) → HasMade basis on measure policies sheet → sheet.read.items ≡ []
      → AreSmallRows basis on measure policies sheet.rows.items
  made_all policies sheet made unread =
      subst (λ ps. AreSmallRows basis on measure ps sheet.rows.items)
      (sym (made.all ∙ ap (λ read. made.valued ++ read) unread ∙ append-nil made.valued)) made.rows
