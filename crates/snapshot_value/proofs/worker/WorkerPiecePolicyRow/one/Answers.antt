use Rattle.std.proofs.Common.{FitsSigned, rules, w32}
use Rattle.std.proofs.lemmas.Int.{to_z-of_z}
use Rattle.snapshot_value.proofs.RowSteps.{within_most}
use Rattle.snapshot_value.proofs.worker.WorkerPiecePolicyRow.one.Goals as goal

pub returns-clause-value : goal.returns-clause-value
returns-clause-value c =
    let fits : FitsSigned w32 c.args.self.now.on = search rules in
    let same = to_z-of_z w32 c.args.self.now.on fits in (
      rw same at c.row.ensures.row,
      within_most c.args.self.now.measure _ c.row.result.worth c.requires.1.issue_in.amount_in.1 c.row.ensures.most,
    )
