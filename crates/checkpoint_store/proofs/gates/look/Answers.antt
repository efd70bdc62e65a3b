-- Nothing is written, and after the sync each image is what is read.
use Rattle.checkpoint_store.proofs.Names.{◌↔◌, IsTrue, subst, sym, looked, looks_on, IsShut, LooksAtGate}
use Rattle.checkpoint_store.proofs.Stages.{looked_at, looks_safe, ok_map, synced_looks}
use Rattle.checkpoint_store.proofs.gates.look.Goals as goal

pub returns-in_err-sync-clause-unwritten : goal.returns-in_err-sync-clause-unwritten
returns-in_err-sync-clause-unwritten g c = λ honest.
    synced_looks g.E.Disk c.args.disk.now c.sync.new.self c.sync.result (c.sync.ensures.facts honest) (c.sync.ensures.time honest)

pub returns-in_err-size-clause-unwritten : goal.returns-in_err-size-clause-unwritten
returns-in_err-size-clause-unwritten g c = λ honest.
    let honest_mid = c.len.ensures.honesty honest in
    looks_on g.E.Disk c.args.disk.now c.sync.new.self c.len.new.self
    (synced_looks g.E.Disk c.args.disk.now c.sync.new.self c.sync.result (c.sync.ensures.facts honest_mid) (c.sync.ensures.time honest_mid))
    (looked g.E.Disk c.sync.new.self c.len.new.self (c.len.ensures.facts honest) (c.len.ensures.time honest))

pub returns-clause-unwritten : goal.returns-clause-unwritten
returns-clause-unwritten g c = λ honest.
    let honest_len = c.is_shut.ensures.disk.honesty honest in
    let honest_mid = c.len.ensures.honesty honest_len in
    looks_on g.E.Disk c.args.disk.now c.len.new.self c.is_shut.new.disk
    (looks_on g.E.Disk c.args.disk.now c.sync.new.self c.len.new.self
    (synced_looks g.E.Disk c.args.disk.now c.sync.new.self c.sync.result (c.sync.ensures.facts honest_mid) (c.sync.ensures.time honest_mid))
    (looked g.E.Disk c.sync.new.self c.len.new.self (c.len.ensures.facts honest_len) (c.len.ensures.time honest_len)))
    (c.is_shut.ensures.unwritten honest)

pub returns-clause-gate : goal.returns-clause-gate
returns-clause-gate g c = λ honest.
    let new = c.is_shut.new.disk in
    let honest_len = c.is_shut.ensures.disk.honesty honest in
    let honest_mid = c.len.ensures.honesty honest_len in
    let asked = looked g.E.Disk c.sync.new.self c.len.new.self (c.len.ensures.facts honest_len) (c.len.ensures.time honest_len) in
    let looks = c.is_shut.ensures.unwritten honest in
    let safe = looks_safe g.E.Disk c.len.new.self new (looks_safe g.E.Disk c.sync.new.self c.len.new.self (c.in_ok-sync.ensures.facts honest_mid).durable asked) looks in
    ok_map c.is_shut.result (λ shut. IsTrue shut ↔ IsShut (g.E.Disk.reads c.len.new.self)) (λ closed. LooksAtGate g.E.Disk new closed)
    (λ closed is. looked_at g.E.Disk new closed safe (subst (λ b. IsTrue closed ↔ IsShut b) (sym looks.reads) is)) (c.is_shut.ensures.shut honest)
