use Rattle.lane_runner.proofs.Names.{◌≡◌, length, sym, ◌∙◌, subst, arith, rules, HasRunIn, IsReadySeat}
use denote.Param.SendFields.{declared_sync, as_row_sync}
use denote.Param.Send.{sendable}
use Rattle.std.proofs.Crossing.{crosses, sync}
use Rattle.shared_office.proofs.Crossing.{crosses_office}
use Rattle.snapshot_value.proofs.Crossing.{basis_crosses}
use Rattle.lane_runner.proofs.Crossing.{bell_crosses, lane_crosses, outlet_crosses, seven_sync}
use Rattle.lane_runner.proofs.SeatSteps.{got, have_run, zip_at, zip_length}
use Rattle.lane_runner.proofs.running.run_all.Goals as goal

pub for_each_mut-requires-clause-accepts : goal.for_each_mut-requires-clause-accepts
for_each_mut-requires-clause-accepts g c κs within = λ i p below here. (
  search rules,
  (
    (
      (let long = zip_length (IsReadySeat c.args.run.now.office.now) c.args.run.now.lanes.now c.args.seats.now c.requires.ready in omega (arith, below, long)),
      λ lane at. subst (IsReadySeat c.args.run.now.office.now lane) (sym here)
          (zip_at (IsReadySeat c.args.run.now.office.now) c.args.run.now.lanes.now c.args.seats.now i lane p.now c.requires.ready at),
    ),
    search rules,
  ),
)

pub returns : goal.returns
returns g c =
    let long : length c.args.run.now.lanes.now ≡ length c.args.seats.now = zip_length (IsReadySeat c.args.run.now.office.now) c.args.run.now.lanes.now c.args.seats.now c.requires.ready in
    record {
      run = have_run c.args.run.now.basis.now c.args.run.now.lanes.now c.args.seats.now c.for_each_mut.new.s long (omega (arith, long, c.for_each_mut.auto.s))
          (λ i lane old new at_lane at_old at_new.
          let changes = c.for_each_mut.ensures i old (got c.args.seats.now i old old at_old).1 in
          subst (λ (o : _). HasRunIn c.args.run.now.basis.now lane o new) (changes.1.argument_is ∙ (got c.args.seats.now i old old at_old).0)
          (subst (λ (n : _). HasRunIn c.args.run.now.basis.now lane changes.1.argument.now n) (changes.1.left ∙ (got c.for_each_mut.new.s i new old at_new).0)
          (changes.1.call lane at_lane)));
    }

pub for_each_mut-requires-send-T : goal.for_each_mut-requires-send-T
for_each_mut-requires-send-T g c κs within = search (crosses_office, outlet_crosses, sendable, crosses) depth 20

pub for_each_mut-requires-sync-F : goal.for_each_mut-requires-sync-F
for_each_mut-requires-sync-F g c κs within =
    search (crosses_office, lane_crosses, basis_crosses, bell_crosses, sync, seven_sync, declared_sync, as_row_sync, sendable, crosses) depth 20
