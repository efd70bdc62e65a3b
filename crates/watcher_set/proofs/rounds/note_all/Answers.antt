use Rattle.watcher_set.proofs.Names.{subst, sym, add-one, slice_set, arith, HasSpareRoom, MayBeTold, Hears}
use Rattle.watcher_set.proofs.Halfway.{Halfway, Halfway-step, Halfway-later, AllZip-from_end}
use Rattle.watcher_set.proofs.Telling.{AreTold-next, AreTold-more}
use Rattle.watcher_set.proofs.rounds.note_all.Goals as goal

pub note_place-requires-clause-room : goal.note_place-requires-clause-room
note_place-requires-clause-room g c =
    Halfway-later (Hears g.B.Watcher c.args.position c.args.command.now) (HasSpareRoom g.B.Watcher) _ c.args.places.now _ _ c.requires.room
    c.loop-place.invariant (omega (arith, c.loop-place-test.true, c.loop-place.auto.places))

pub note_place-requires-clause-next : goal.note_place-requires-clause-next
note_place-requires-clause-next g c =
    let next = c.requires.next in
    Halfway-later (Hears g.B.Watcher c.args.position c.args.command.now) (MayBeTold g.B.Watcher c.args.position) _ c.args.places.now _ _
    (AreTold-next g.B.Watcher next.0 next.1 c.args.position next.4 next.5 next.2 c.args.places.now next.3)
    c.loop-place.invariant (omega (arith, c.loop-place-test.true, c.loop-place.auto.places))

pub loop-place-preserved : goal.loop-place-preserved
loop-place-preserved g c =
    let R = Hears g.B.Watcher c.args.position c.args.command.now in
    subst (λ n. Halfway R n c.args.places.now (slice_set c.loop-place.places c.loop-place.place-index c.note_place.new.place))
    (sym (add-one c.loop-place.place-index))
    (Halfway-step R _ c.args.places.now c.loop-place.places _ _ c.loop-place.invariant
    (omega (arith, c.loop-place-test.true, c.loop-place.auto.places)) c.note_place.ensures)

pub returns : goal.returns
returns g c before commands auditors told at =
    AreTold-more g.B.Watcher before commands c.args.command.now c.args.position at auditors c.args.places.now c.loop-place.places told
    (AllZip-from_end (Hears g.B.Watcher c.args.position c.args.command.now) c.loop-place.place-index _ _ c.loop-place.invariant
    (omega (arith, c.loop-place-test.false, c.loop-place.auto.places)))
