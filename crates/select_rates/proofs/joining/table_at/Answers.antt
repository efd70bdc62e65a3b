use Rattle.select_rates.proofs.Periods.{period_at}
use Rattle.select_rates.proofs.joining.table_at.Goals as goal

pub join-requires : goal.join-requires
join-requires c = rw c.row.ensures (period_at _ c.args.index c.requires.selected c.requires.within)
