use Rattle.present_value.proofs.Names.{◌-◌, ◌≤◌, IsColumn, IsOf}
use Rattle.present_value.proofs.column.Column.extend.Given as goal

-- the values are known from the column's lowest age on
abbrev pub invariant-loop-self : goal.invariant-loop-self
invariant-loop-self l = record {
  column : IsColumn l.table l.bp l.self;
  stays : IsOf l.self l.fn.self.stream l.fn.self.end;
  least : l.age ≤ l.self.from;
}

abbrev pub decreases-loop-self : goal.decreases-loop-self
decreases-loop-self l = l.self.from - l.age
