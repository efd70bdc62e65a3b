use Rattle.xtbml_subset.proofs.Names.{◌≤◌, ℕ, length, Ok, sym, subst, arith, AreRates, rows_from, found_of}
use Rattle.xtbml_subset.proofs.TableRates.{rows_make_rates, no_fault}
use Rattle.xtbml_subset.proofs.table.rates_table.Goals as goal

pub unreachable-requires : goal.unreachable-requires
unreachable-requires c =
    let total = c.args.total in
    let rates = c.in_ok-rates.rates.items in
    let rows = rows_from total (found_of c.args.first.now) in
    let some : 1 ≤ length rows = omega arith in
    let are = rows_make_rates rows rates some c.in_ok-rates.ensures.read in
    let given : AreRates (record { first_age = c.age_at.result; rates = rates }) =
    subst (λ (age : ℕ). AreRates (record { first_age = age; rates = rates })) (sym (c.age_at.ensures total)) are in
    no_fault (record { first_age = c.age_at.result; rates = rates }) c.in-Err.field-0 given c.in-Err.ensures.table

pub returns-clause-read : goal.returns-clause-read
returns-clause-read c =
    let age = c.age_at.ensures c.args.total in
    let made = c.in-Ok.ensures.table in
    (Ok c.in_ok-rates.rates.items, c.in_ok-rates.ensures.read, cc)
