-- The projection of nobody, and what is reported of an empty file
use Rattle.valuing_modes.proofs.Names.{◌≡◌, ℕ, zero, suc, ◌<◌, List, [], ◌∷◌, pos, refl, inl, inr, ◌∙◌, subst, lit<, lit≤, arith, AllZip, digits, Ghosts, date_of, month_of, days_before_year, days_of_months, day_text, Command, Policy, Dated, Shelving, Stream, WroteAll, IsProjectionText}
use Rattle.std.specs.Prelude.{map}
use Rattle.std.specs.List.{range_with_len, sum_by}
use Rattle.present_value.specs.Values.{pair_of}
use Rattle.cash_projection.specs.Cash.{EnclosesExpected, rounded_year}
use Rattle.cash_projection.specs.Pinned.{IsProjectionAt}
use Rattle.cash_projection.specs.Policies.{IsCashOf, IsProspect}
use Rattle.cash_projection.specs.Prospects.{Prospect}
use Rattle.cash_projection.specs.Text.{projection_text, year_text}
use Rattle.cash_projection.specs.declared.printing.Projection.{Projection}
use Rattle.cash_projection.specs.declared.years.Year.{Year}
use Rattle.valuing_modes.proofs.EmptyFile.{no_commands}
use Rattle.valuing_modes.specs.WorkedProjections.{IsNeverAhead, NobodyProjected, ProjectsAnEmptyFile, nobodys_text}

abbrev no_year : Year
no_year = record { premium = pair_of 0 0; death = pair_of 0 0; maturity = pair_of 0 0 }

abbrev idle_years : List Year
idle_years = no_year ∷ no_year ∷ []

abbrev idle_projection : Projection
idle_projection = record { position = 0; on = pos 18627; policies = 0; unvalued = 0; years = idle_years }

idle_exact : (j : ℕ) → j < 2 → EnclosesExpected [] j (rounded_year [] j)
idle_exact zero below = record {
  premium = record { between = record { proper = lit< tt; above = lit≤ tt; below = lit≤ tt }; narrow = lit≤ tt; most = lit≤ tt };
  death = record { between = record { proper = lit< tt; above = lit≤ tt; below = lit≤ tt }; narrow = lit≤ tt; most = lit≤ tt };
  maturity = record { between = record { proper = lit< tt; above = lit≤ tt; below = lit≤ tt }; narrow = lit≤ tt; most = lit≤ tt };
}
idle_exact (suc zero) below = record {
  premium = record { between = record { proper = lit< tt; above = lit≤ tt; below = lit≤ tt }; narrow = lit≤ tt; most = lit≤ tt };
  death = record { between = record { proper = lit< tt; above = lit≤ tt; below = lit≤ tt }; narrow = lit≤ tt; most = lit≤ tt };
  maturity = record { between = record { proper = lit< tt; above = lit≤ tt; below = lit≤ tt }; narrow = lit≤ tt; most = lit≤ tt };
}
idle_exact (suc (suc j)) below = absurd (omega (arith, below))

idle_cash : IsCashOf [] (pos 18627) [] 2 0 idle_years
idle_cash = record { prospects = []; each = tt; words = refl; rounded = refl; exact = idle_exact }

pub projects_nobody : NobodyProjected
unfolding year_text day_text date_of month_of days_before_year days_of_months digits
projects_nobody = record {
  projection = idle_projection;
  is = record {
    pinned = refl;
    day = refl;
    counted = refl;
    cash = idle_cash;
    few = lit≤ tt;
  };
  wrote = refl;
}

no_prospects : (P : Policy → Prospect → Type 0) (prospects : List Prospect) → AllZip P [] prospects → prospects ≡ []
no_prospects P [] each = refl
no_prospects P (p ∷ ps) each = absurd each

no_words : (prospects : List Prospect) → prospects ≡ [] → sum_by (λ (p : Prospect). p.words) prospects ≡ 0
no_words [] none = refl
no_words (p ∷ ps) none = absurd (cc)

two_years : (prospects : List Prospect) → prospects ≡ [] → map (rounded_year prospects) (range_with_len 0 2) ≡ idle_years
two_years [] none = refl
two_years (p ∷ ps) none = absurd (cc)

-- of no policies there is just one projection
only_idle : (basis : List Dated) (p : Projection) → IsProjectionAt basis (pos 18627) 2 0 [] p → p ≡ idle_projection
only_idle basis p is =
    let none = no_prospects (IsProspect basis (pos 18627)) is.cash.prospects is.cash.each in
    let words : p.unvalued ≡ 0 = is.cash.words ∙ no_words is.cash.prospects none in
    let years : p.years ≡ idle_years = is.cash.rounded ∙ two_years is.cash.prospects none in
    λ i. record { position = is.pinned i; on = is.day i; policies = is.counted i; unvalued = words i; years = years i }

idle_text : (output : Stream) → WroteAll output (projection_text idle_projection) → WroteAll output nobodys_text
unfolding year_text day_text date_of month_of days_before_year days_of_months digits
idle_text output wrote = wrote

pub projects_nothing : {D : Type 0} (g : Ghosts D) (shelf : Shelving) → ProjectsAnEmptyFile g shelf
projects_nothing g shelf old new name output honest empty ends = elim ends [
  | inl by ↦
      let none = no_commands (g.reads old) by.ends.commands empty (by.ends.disk.opened honest) in
      let text : IsProjectionText [] (pos 18627) 2 by.basis (WroteAll output) =
      subst (λ (commands : List Command). IsProjectionText commands (pos 18627) 2 by.basis (WroteAll output)) none by.ends.so in
      idle_text output (subst (λ (p : Projection). WroteAll output (projection_text p)) (only_idle by.basis text.projection text.is) text.wrote)
  | inr none ↦ absurd none.1
]

pub never_ahead : {D : Type 0} (g : Ghosts D) (shelf : Shelving) → IsNeverAhead g shelf
never_ahead g shelf old new name output ends = elim ends [
  | inl by ↦ by.ends.0
  | inr none ↦ none.1
]
