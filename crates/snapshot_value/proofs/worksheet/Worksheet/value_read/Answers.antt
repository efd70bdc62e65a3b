use Rattle.snapshot_value.proofs.Names.{rules, AreAsBefore, GivesRow, TakesPolicy}
use Rattle.std.specs.Vec.{with_items}
use Rattle.snapshot_value.proofs.SheetSteps.{can_valued, made_valued, still_with}
use Rattle.snapshot_value.proofs.worksheet.Worksheet.value_read.Goals as goal

pub returns-clause-can : goal.returns-clause-can
returns-clause-can g c =
    let still : AreAsBefore TakesPolicy GivesRow c.args.self.now.workers.items c.value_all.new.workers = search rules in
    let back = still_with c.args.self.now.workers c.value_all.new.workers still in
    can_valued c.args.self.now
    (record { workers = with_items c.args.self.now.workers c.value_all.new.workers; read = c.clear.new.self; rows = c.value_all.new.rows })
    c.requires.can back c.clear.ensures.items

pub returns-clause-made : goal.returns-clause-made
returns-clause-made g c = λ basis on measure policies made.
    let still : AreAsBefore TakesPolicy GivesRow c.args.self.now.workers.items c.value_all.new.workers = search rules in
    let back = still_with c.args.self.now.workers c.value_all.new.workers still in
    let added = c.in_ok-value_all.ensures.rows basis on measure (rw c.as_mut_slice-workers.ensures.value made.by) in
    made_valued basis on measure policies c.args.self.now
    (record { workers = with_items c.args.self.now.workers c.value_all.new.workers; read = c.clear.new.self; rows = c.value_all.new.rows })
    made added.0 back (rw c.as_slice-policies.ensures.value at added.2) c.clear.ensures.items added.1
