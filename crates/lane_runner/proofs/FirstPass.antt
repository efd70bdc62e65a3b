-- What is known if lanes are run by a first pass, which then has the whole history
use Rattle.lane_runner.proofs.Names.{◌≡◌, ℕ, ◌==◌, Bool, true, false, List, [], ◌∷◌, ◌++◌, map, inl, inr, refl, ap, sym, ◌∙◌, subst, AllByRecursion, Contains, eq-eqb, false≢true, Dated, Entry, Lane, IsMerge, entries_of, Holding, OwnsAll, Page, PassFacts, OfficeOpening, HasAnsweredLanes, dry_of}
use Rattle.lane_runner.specs.declared.transcript.Transcript.{Transcript}
use Rattle.lane_runner.proofs.RunSteps.{numbers_of}
use Rattle.lane_runner.proofs.MergeSteps.{In, contains_in, in_contains}

-- if a caller made no entry, all are of the others
only_others : (history : List Entry) (number : ℕ) (others : List ℕ) → entries_of history number ≡ []
    → AllByRecursion (λ (entry : Entry). Contains (number ∷ others) entry.caller) history
    → AllByRecursion (λ (entry : Entry). Contains others entry.caller) history
only_others [] number others none all = tt
only_others (entry ∷ history) number others none all = by (entry.caller == number) refl (only_others history number others)
  where
    among : (entry.caller == number) ≡ false → In entry.caller (number ∷ others) → Contains others entry.caller
    among apart (inl same) = absurd (false≢true (sym apart ∙ eq-eqb entry.caller number (sym same)))
    among apart (inr later) = in_contains entry.caller others later

    by : (b : Bool) → (entry.caller == number) ≡ b
        → (entries_of history number ≡ [] → AllByRecursion (λ (e : Entry). Contains (number ∷ others) e.caller) history
        → AllByRecursion (λ (e : Entry). Contains others e.caller) history)
        → AllByRecursion (λ (e : Entry). Contains others e.caller) (entry ∷ history)
    by true is later =
        let own : entries_of (entry ∷ history) number ≡ entry ∷ entries_of history number = rw is refl in
        let some : entry ∷ entries_of history number ≡ [] = sym own ∙ none in absurd (cc)
    by false is later =
        let kept : entries_of (entry ∷ history) number ≡ entries_of history number = rw is refl in
        (among is (contains_in entry.caller (number ∷ others) all.0), later (sym kept ∙ none) all.1)

-- A pass that made nothing, and into which none was taken back, has run lanes, and has seen the whole history: this is
-- that of the lanes' callers.
pub lanes_merged : {D W : Type 0} (legal : OfficeOpening D W → List Entry → Type 0) (basis : List Dated) (lanes : List Lane)
    (old new : Holding (OfficeOpening D W)) (transcript : Transcript) → old.made ≡ [] → old.ended ≡ []
    → HasAnsweredLanes basis lanes old new transcript → PassFacts legal new → OwnsAll new
    → IsMerge new.seen lanes transcript.callers (dry_of transcript.lines)
lanes_merged {D} {W} legal basis lanes old new transcript no_entry no_page has facts whole = record {
  distinct = has.pass.distinct;
  theirs = only_others new.seen new.caller transcript.callers (facts.paged.0 ∙ has.pass.made ∙ no_entry)
      (subst (λ (numbers : List ℕ). AllByRecursion (λ (entry : Entry). Contains (new.caller ∷ numbers) entry.caller) new.seen) numbers whole);
  answers = has.answers;
}
  where
    numbers : map (λ (page : Page). page.0) new.ended ≡ transcript.callers
    numbers =
        ap (map (λ (page : Page). page.0)) (has.pass.ended ∙ ap (λ (front : List Page). front ++ map (λ caller. (caller, entries_of new.seen caller)) transcript.callers) no_page)
        ∙ numbers_of transcript.callers (entries_of new.seen)
