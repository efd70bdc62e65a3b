use Rattle.std.proofs.Common.{refl}
use Rattle.stating_modes.proofs.OpenedTwo.{renamed, store_failed}
use Rattle.stating_modes.proofs.reopened.start_store.Goals as goal

pub returns-in-Err-clause-none : goal.returns-in-Err-clause-none
returns-in-Err-clause-none g c disk on =
    let start = c.in-Err.ensures in
    renamed g.D.Disk g.E.Disk disk _ c.release.result c.args.second _ _ _ _ c.release.ensures refl refl
    (store_failed g.D.Disk g.E.Disk g.met.D.Disk.reads_as_image g.met.D.Disk.counts_now disk c.args.journal on c.args.second c.in-Err.fault.disk c.in-Err.fault.count
    (record { honesty = start.honesty; looks = start.unwritten }) start.rose)
