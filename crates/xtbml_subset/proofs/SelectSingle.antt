-- The checks of a table of either kind have one answer.
use Rattle.xtbml_subset.proofs.Names.{◌≡◌, ℕ, ◌+◌, List, [], ◌∷◌, Option, Some, None, Result, Ok, Err, sym, ap, ◌∙◌, TableFault, Attained, RateElement, age_of, is_due, IsScale, Issue, SelectParts, InTurn, ReadsAll, ◌>>=◌, short_number, is_duration, rated, timed, IsTimed, ReadsDuration, ReadsPeriod, IsIssuedAt, ReadsIssue, ReadsUltimate, IsJoinedBy, IsTableBy, IsSelectBy, AnyParts, aggregate, selected, IsAnyBy, AnyTable}
use Rattle.select_rates.specs.declared.any.AnyTable.TheVariants.{Select, Aggregate}
use Rattle.xtbml_subset.proofs.Judging.{reads_one, by_bool, scale_one, rates_single, table_one}
use Rattle.xtbml_subset.proofs.ReadingRuns.{Single, then_single, all_single}

timed_single : (due : Attained) (row : RateElement) (duration : Option ℕ) → Single (IsTimed due row duration)
timed_single due row None a b h k = h ∙ sym k
timed_single due row (Some duration) a b h k =
    by_bool (is_duration due duration) _ _ _ _ (a ≡ b) h k
    (λ x y. x.2 ∙ ap (λ (o : Option ℕ). rated row.at (timed due.age duration) o) (reads_one row.text x.0 y.0 x.1 y.1) ∙ sym y.2)
    (λ x y. x ∙ sym y)

period_single : (at age : ℕ) (rows : List RateElement) → Single (ReadsPeriod at age rows)
period_single at age [] a b h k = h ∙ sym k
period_single at age (row ∷ rows) a b h k =
    then_single (λ one. ReadsAll ReadsDuration (record { duration = None; age = age }) (row ∷ rows) one) (λ (rates : List ℕ) whole. whole ≡ Ok (Some (age + 1), rates))
    (all_single ReadsDuration (λ due one. timed_single due one (one.label >>= λ text. short_number text)) (row ∷ rows) (record { duration = None; age = age }))
    (λ rates x y p q. p ∙ sym q) a b h k

issued_single : (due : Option ℕ) (issue : Issue) (age : Option ℕ) → Single (IsIssuedAt due issue age)
issued_single due issue None a b h k = h ∙ sym k
issued_single due issue (Some age) a b h k =
    by_bool (is_due due age) _ _ _ _ (a ≡ b) h k (period_single issue.at age issue.rates a b) (λ x y. x ∙ sym y)

ultimate_single : (at : ℕ) (rows : List RateElement) → Single (ReadsUltimate at rows)
ultimate_single at [] a b h k = h ∙ sym k
ultimate_single at (row ∷ rows) a b h k = rates_single (row ∷ rows) a b h k

select_single : (parts : SelectParts) → Single (IsSelectBy parts)
select_single parts =
    then_single (λ one. IsScale parts.factor one)
    (λ none unscaled. InTurn (IsScale parts.ultimate_factor) (λ same read. InTurn (ReadsAll ReadsIssue None parts.issues)
    (λ rows joined. InTurn (ReadsUltimate parts.at parts.ultimate) (λ ultimate whole. IsJoinedBy parts.issues rows ultimate whole) joined) read) unscaled)
    (scale_one parts.factor)
    (λ none.
    then_single (λ one. IsScale parts.ultimate_factor one)
    (λ same read. InTurn (ReadsAll ReadsIssue None parts.issues)
    (λ rows joined. InTurn (ReadsUltimate parts.at parts.ultimate) (λ ultimate whole. IsJoinedBy parts.issues rows ultimate whole) joined) read)
    (scale_one parts.ultimate_factor)
    (λ same.
    then_single (λ one. ReadsAll ReadsIssue None parts.issues one)
    (λ rows joined. InTurn (ReadsUltimate parts.at parts.ultimate) (λ ultimate whole. IsJoinedBy parts.issues rows ultimate whole) joined)
    (all_single ReadsIssue (λ due issue. issued_single due issue (age_of issue.label)) parts.issues None)
    (λ rows.
    then_single (λ one. ReadsUltimate parts.at parts.ultimate one) (λ ultimate whole. IsJoinedBy parts.issues rows ultimate whole)
    (ultimate_single parts.at parts.ultimate)
    (λ ultimate x y p q. p ∙ sym q))))

pub any_single : (parts : Result AnyParts TableFault) → Single (IsAnyBy parts)
any_single (Err fault) = λ a b h k. h ∙ sym k
any_single (Ok (aggregate parts)) = then_single (λ one. IsTableBy (Ok parts) one) (λ one (whole : Result AnyTable TableFault). whole ≡ Ok (Aggregate one)) (table_one (Ok parts)) (λ one x y p q. p ∙ sym q)
any_single (Ok (selected parts)) = then_single (λ one. IsSelectBy parts one) (λ one (whole : Result AnyTable TableFault). whole ≡ Ok (Select one)) (select_single parts) (λ one x y p q. p ∙ sym q)
