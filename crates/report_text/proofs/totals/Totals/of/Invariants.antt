use Rattle.report_text.proofs.Names.{◌≡◌, ◌*◌, ◌≤◌, take, total_of}
use Rattle.report_text.proofs.totals.Totals.of.Given as goal

abbrev pub invariant-loop-row : goal.invariant-loop-row
invariant-loop-row l =
    (l.totals.lower ≡ total_of (λ t. t.lower) (take l.row-index l.rows)) × (l.totals.upper ≡ total_of (λ t. t.upper) (take l.row-index l.rows))
    × (l.totals.lower_minimum ≡ total_of (λ t. t.lower_minimum) (take l.row-index l.rows))
    × (l.totals.upper_minimum ≡ total_of (λ t. t.upper_minimum) (take l.row-index l.rows))
    × (l.totals.lower_minimum ≤ l.row-index * 20000000000) × (l.totals.upper_minimum ≤ l.row-index * 20000000000)
    × (l.totals.unvalued ≡ total_of (λ t. t.unvalued) (take l.row-index l.rows))
    × (l.totals.lower ≤ l.row-index * 20000000000) × (l.totals.upper ≤ l.row-index * 20000000000)
    × (l.totals.unvalued ≤ l.row-index)
