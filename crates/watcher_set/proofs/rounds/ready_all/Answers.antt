use Rattle.std.proofs.Common.{inl, inr}
use Rattle.std.specs.Prelude.{Result, Ok, Err, OnErr}
use Rattle.watcher_set.proofs.Names.{suc, subst, sym, add-one, slice_set, arith, HasSpareRoom, Stays}
use Rattle.watcher_set.proofs.Halfway.{Halfway, Halfway-step, Halfway-weaker, AllZip-from_end, AllZip-from_halfway, AllByRecursion-from_zip, Halfway-one}
use Rattle.watcher_set.proofs.Telling.{AreTold-still, Readied, stays_same}
use Rattle.watcher_set.specs.Told.{IsFull, HasFull}
use Rattle.watcher_set.proofs.rounds.ready_all.Goals as goal

told-if_err : {T E P : Type 0} → P → (result : Result T E) → OnErr result P
told-if_err told (Ok value) = tt
told-if_err told (Err fault) = told

pub returns-in_err-ready_place-clause-told : goal.returns-in_err-ready_place-clause-told
returns-in_err-ready_place-clause-told g c before commands auditors told =
    let ghosts = g.B.Watcher in
    let so_far = Halfway-weaker (Readied ghosts) (Stays ghosts) (λ old new readied. readied.0) _ _ _ c.loop-place.invariant in
    AreTold-still ghosts before commands auditors c.args.places.now _ told
    (AllZip-from_halfway (Stays ghosts) (stays_same ghosts) (suc c.loop-place.place-index) _ _
    (Halfway-step (Stays ghosts) c.loop-place.place-index c.args.places.now c.loop-place.places _ _ so_far
    (omega (arith, c.loop-place-test.true, c.loop-place.auto.places)) c.in_err-ready_place.ensures.stays))

pub loop-place-preserved : goal.loop-place-preserved
loop-place-preserved g c =
    let R = Readied g.B.Watcher in
    subst (λ n. Halfway R n c.args.places.now (slice_set c.loop-place.places c.loop-place.place-index c.ready_place.new.place))
    (sym (add-one c.loop-place.place-index))
    (Halfway-step R _ c.args.places.now c.loop-place.places _ _ c.loop-place.invariant
    (omega (arith, c.loop-place-test.true, c.loop-place.auto.places))
    (c.in_ok-ready_place.ensures.stays, c.in_ok-ready_place.ensures.ok))

pub returns-clause-told : goal.returns-clause-told
returns-clause-told g c before commands auditors told =
    let ghosts = g.B.Watcher in
    let so_far = Halfway-weaker (Readied ghosts) (Stays ghosts) (λ old new readied. readied.0) _ _ _ c.loop-place.invariant in
    AreTold-still ghosts before commands auditors c.args.places.now c.loop-place.places told
    (AllZip-from_halfway (Stays ghosts) (stays_same ghosts) c.loop-place.place-index _ _ so_far)

pub returns-clause-ok : goal.returns-clause-ok
returns-clause-ok g c =
    let ghosts = g.B.Watcher in
    AllByRecursion-from_zip (Readied ghosts) (HasSpareRoom ghosts) (λ old new readied. readied.1)
    c.args.places.now c.loop-place.places
    (AllZip-from_end (Readied ghosts) c.loop-place.place-index _ _ c.loop-place.invariant
    (omega (arith, c.loop-place-test.false, c.loop-place.auto.places)))

pub returns-in_err-ready_place-clause-full : goal.returns-in_err-ready_place-clause-full
returns-in_err-ready_place-clause-full g c =
    let ghosts = g.B.Watcher in
    let full : HasFull ghosts c.args.places.now =
    Halfway-one (Readied ghosts) (IsFull ghosts) (HasFull ghosts) (λ x xs full. inl full) (λ x xs one. inr one)
    c.loop-place.place-index _ _ _ c.loop-place.invariant
    (omega (arith, c.loop-place-test.true, c.loop-place.auto.places)) c.in_err-ready_place.ensures.full in
    told-if_err full _
