-- What is reported of an empty file.
use Rattle.valuing_modes.proofs.Names.{◌≡◌, ℕ, List, [], ◌∷◌, inr, inl, refl, subst, lit≤, pos, digits, AllZip, Ghosts, date_of, month_of, days_before_year, days_of_months, day_text, Command, Policy, Now, Position, block_text, total_text, heading_text, IsValuedRow, Opens, WroteAll, IsBeyond, IsValuation}
use Rattle.policy_value.specs.declared.worth.Measure.TheVariants.{Terminal}
use Rattle.policy_value.specs.declared.worth.Row.{Row}
use Rattle.office_state.proofs.JournalLaws.{opens_to_one}
use Rattle.valuing_modes.specs.Worked.{IsAheadOfAnEmptyFile, ValuesAnEmptyFile}

pub no_commands : (bytes : List ℕ) (commands : List Command) → bytes ≡ [] → Opens bytes commands → commands ≡ []
no_commands bytes commands empty opens =
    opens_to_one [] commands [] (subst (λ (xs : List ℕ). Opens xs commands) empty opens) (inr (refl, inl (lit≤ tt)))

no_rows : (P : Policy → Row → Type 0) (rows : List Row) → AllZip P [] rows → rows ≡ []
no_rows P [] each = refl
no_rows P (row ∷ rows) each = absurd each

pub ahead_of_nothing : {D : Type 0} (g : Ghosts D) → IsAheadOfAnEmptyFile g
unfolding digits
ahead_of_nothing g old new output honest empty h =
    let none = no_commands (g.reads old) h.commands empty (h.disk.opened honest) in
    let beyond : IsBeyond [] (Position 3) output = subst (λ (commands : List Command). IsBeyond commands (Position 3) output) none h.so in
    beyond.line

pub values_nothing : {D : Type 0} (g : Ghosts D) → ValuesAnEmptyFile g
unfolding heading_text total_text day_text date_of month_of days_before_year days_of_months digits
values_nothing g old new output honest empty h =
    let none = no_commands (g.reads old) h.commands empty (h.disk.opened honest) in
    let valuation : IsValuation [] (pos 18628) Now Terminal [] (WroteAll output)
    = subst (λ (commands : List Command). IsValuation commands (pos 18628) Now Terminal [] (WroteAll output)) none h.so in
    subst (λ (rows : List Row). WroteAll output (block_text 0 (pos 18628) 0 Terminal rows)) (no_rows (IsValuedRow [] (pos 18628) Terminal) valuation.rows valuation.each) valuation.wrote
