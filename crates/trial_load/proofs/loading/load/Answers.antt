use Rattle.trial_load.proofs.Names.{List, ℕ, codes, inl, subst, sym, ◌∙◌, Lane, generated_lanes, Shelving, Stream, between, shelf_between, EndsLoading, AreLoadLanes}
use Rattle.outside_io.specs.Shelves.{Files}
use Rattle.basis_shelf.specs.Bases.{IsBasis}
use Rattle.lone_office.specs.Beginning.{EndsOverBasis, IsUnopened}
use Rattle.lone_office.proofs.BeginningSteps.{ends_not_begun}
use Rattle.trial_load.proofs.LoadLanes.{load_lanes}
use Rattle.trial_load.proofs.LoadSteps.{ends_unbegun}
use Rattle.trial_load.proofs.loading.load.Goals as goal

pub load_office-requires-clause-lanes : goal.load_office-requires-clause-lanes
load_office-requires-clause-lanes g c κs within =
    subst (λ (lanes : List Lane). AreLoadLanes lanes) (sym c.as_slice-lanes.ensures)
    (load_lanes c.args.lanes c.args.count c.in-Ok-make_lanes.script c.in-Ok-make_lanes.ensures.dealt c.requires.lanes.1 c.requires.count.1)

pub returns-in-Ok-begin-clause-ends : goal.returns-in-Ok-begin-clause-ends
returns-in-Ok-begin-clause-ends g c =
    let out : Stream = between g.K.Sink.faults g.K.Sink.written g.K.Sink.pieces c.begin.new.output c.load_office.new.output in
    inl (record {
      basis = c.in-Ok-begin.begun.basis;
      is = λ (files : Files) (agrees : g.H.Shelf.agrees c.begin.new.shelf files).
          subst (λ (name : List ℕ). IsBasis files name c.in-Ok-begin.begun.basis) c.in-Ok.ensures (c.in-Ok-begin.ensures.basis files agrees);
      ends = rw c.in-Ok-begin.ensures.silent at
          (subst (λ (lanes : List Lane). EndsLoading g.D.Disk c.args.disk c.load_office.result.disk lanes c.args.workers c.in-Ok-begin.begun.basis out c.load_office.result.ending)
          (c.as_slice-lanes.ensures ∙ c.in-Ok-make_lanes.ensures.lanes) (c.load_office.ensures.ends c.args.disk _ c.in-Ok-begin.ensures.opened.started));
    })

pub returns-clause-ends : goal.returns-clause-ends
returns-clause-ends g c =
    let disk = c.in-Err-begin.finished.disk in
    let ending = c.in-Err-begin.finished.ending in
    let shelf : Shelving = shelf_between g.H.Shelf.faults g.H.Shelf.agrees c.args.shelf.now c.begin.new.shelf in
    let out : Stream = between g.K.Sink.faults g.K.Sink.written g.K.Sink.pieces c.args.output.now c.begin.new.output in
    let lanes = generated_lanes c.args.seed c.args.lanes c.args.count in
    ends_not_begun g.D.Disk c.args.disk disk (λ basis. EndsLoading g.D.Disk c.args.disk disk lanes c.args.workers basis out ending) (codes "basis.csv") shelf out ending
    (λ basis why. ends_unbegun g.D.Disk c.args.disk disk lanes c.args.workers basis out why.cause ending why.refused why.says)
    (subst (λ (name : List ℕ). EndsOverBasis c.args.disk disk (λ basis. IsUnopened g.D.Disk c.args.disk disk out ending) name shelf out ending) c.in-Ok.ensures c.in-Err-begin.ensures.ended)
