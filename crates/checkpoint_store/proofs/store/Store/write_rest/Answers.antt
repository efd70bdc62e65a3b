-- All that is written stands behind the gate, which stays closed.
use Rattle.checkpoint_store.proofs.Names.{◌≡◌, List, [], ◌++◌, length, take, drop, refl, sym, ap, subst, ◌∙◌, arith, flat_map, Policy, front_bytes, policy_bytes, snapshot_bytes, StandBehindGate, front_of, IsSafe}
use Rattle.checkpoint_store.proofs.Behind.{behind_more}
use Rattle.checkpoint_store.proofs.GateSteps.{shut_on, shut_sync}
use Rattle.checkpoint_store.proofs.Reading.{front_behind}
use Rattle.checkpoint_store.proofs.Stages.{knows_shut, ok_both}
use Rattle.checkpoint_store.proofs.store.Store.write_rest.Goals as goal

pub returns-in_err-write_behind-clause-shut : goal.returns-in_err-write_behind-clause-shut
returns-in_err-write_behind-clause-shut g c = λ honest knows.
    let old = c.args.self.now in
    c.write_behind.ensures.shut honest (knows_shut g.E.Disk old.closed old.disk c.requires.closed knows)

pub returns-in_err-write_policies-clause-shut : goal.returns-in_err-write_policies-clause-shut
returns-in_err-write_policies-clause-shut g c = λ honest knows.
    let old = c.args.self.now in
    let first = c.write_behind.ensures.shut (c.write_policies.ensures.disk.honesty honest) (knows_shut g.E.Disk old.closed old.disk c.requires.closed knows) in
    shut_on g.E.Disk old.disk c.write_behind.new.disk c.write_policies.new.disk first (c.write_policies.ensures.shut honest first.shut)

pub returns-clause-shut : goal.returns-clause-shut
returns-clause-shut g c = λ honest knows.
    let old = c.args.self.now in
    let honest_2 = c.sync.ensures.honesty honest in
    let first = c.write_behind.ensures.shut (c.write_policies.ensures.disk.honesty honest_2) (knows_shut g.E.Disk old.closed old.disk c.requires.closed knows) in
    let second = c.write_policies.ensures.shut honest_2 first.shut in
    shut_on g.E.Disk old.disk c.write_policies.new.disk c.sync.new.self
    (shut_on g.E.Disk old.disk c.write_behind.new.disk c.write_policies.new.disk first second) (shut_sync g.E.Disk c.write_policies.new.disk c.sync.new.self c.sync.result (c.sync.ensures.facts honest) (c.sync.ensures.time honest) second.shut)

pub returns-clause-written : goal.returns-clause-written
returns-clause-written g c = λ honest knows.
    let old = c.args.self.now in
    let s = c.args.snapshot.now in
    let front = take 63 (drop 1 c.front_with.result) in
    let honest_2 = c.sync.ensures.honesty honest in
    let honest_1 = c.write_policies.ensures.disk.honesty honest_2 in
    let began : StandBehindGate front (g.E.Disk.reads c.write_behind.new.disk) =
    behind_more [] front (g.E.Disk.reads old.disk) (g.E.Disk.reads c.write_behind.new.disk) 1 refl (old.there (c.write_behind.ensures.disk.honesty honest_1) c.requires.closed) refl (c.in_ok-write_behind.ensures.written honest_1) in
    let stands : StandBehindGate (front ++ flat_map policy_bytes s.book) (g.E.Disk.reads c.write_policies.new.disk) =
    subst (λ (l : List Policy). StandBehindGate (front ++ flat_map policy_bytes l) (g.E.Disk.reads c.write_policies.new.disk)) c.as_slice-2.ensures
    (c.in_ok-write_policies.ensures.written front honest_2 (omega arith) began) in
    let spelled : front ≡ front_bytes s =
    front_behind c.front_with.result _ c.front_with.ensures ∙ ap (λ (l : List Policy). front_of (record { position = s.position; upgrade = s.upgrade; policies = length l; ledger = s.ledger })) c.as_slice.ensures in
    let all : StandBehindGate (snapshot_bytes s) (g.E.Disk.reads c.write_policies.new.disk) =
    subst (λ f. StandBehindGate (f ++ flat_map policy_bytes s.book) (g.E.Disk.reads c.write_policies.new.disk)) spelled stands in
    ok_both c.sync.result (StandBehindGate (snapshot_bytes s) (g.E.Disk.reads c.sync.new.self)) (IsSafe g.E.Disk c.sync.new.self)
    (subst (λ b. StandBehindGate (snapshot_bytes s) b) (sym (c.sync.ensures.facts honest).reads) all) (c.sync.ensures.facts honest).durable
