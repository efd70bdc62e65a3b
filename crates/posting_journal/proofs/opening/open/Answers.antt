-- The sync makes safe what the opening stands on.
use Rattle.posting_journal.specs.Opening.{HasSynced}
use Rattle.posting_journal.proofs.Opened.{ok_always, opens_ever, opens_synced, opens_unsynced}
use Rattle.posting_journal.proofs.opening.open.Goals as goal

pub returns-in_err-sync-clause-opens : goal.returns-in_err-sync-clause-opens
returns-in_err-sync-clause-opens g c = λ honest.
    let old = c.args.disk.now in
    opens_unsynced g.D.Disk old c.sync.new.self c.sync.result (c.sync.ensures.facts honest) (c.sync.ensures.time honest)
    (λ image left. g.met.D.Disk.only_now old image (c.sync.ensures.honesty honest) left)

pub returns-clause-opens : goal.returns-clause-opens
returns-clause-opens g c = λ honest.
    let old = c.args.disk.now in
    let mid = c.sync.new.self in
    let new = c.open_safe.new.disk in
    let honest_mid = c.open_safe.ensures.answers.cause.honesty honest in
    let facts = c.sync.ensures.facts honest_mid in
    let time = c.sync.ensures.time honest_mid in
    let moments = c.open_safe.ensures.moments honest in
    opens_ever g.D.Disk old mid new c.sync.result facts time moments
    (λ image left. g.met.D.Disk.only_now old image (c.sync.ensures.honesty honest_mid) left) (c.open_safe.ensures.unwritten honest)
    (opens_synced g.D.Disk old mid new c.sync.result facts time moments honest_mid
    (λ image left. g.met.D.Disk.only_now mid image honest_mid left) (c.in_ok-sync.ensures.facts honest_mid).durable)

pub returns-clause-synced : goal.returns-clause-synced
returns-clause-synced g c = λ honest.
    let old = c.args.disk.now in
    let mid = c.sync.new.self in
    let honest_mid = c.open_safe.ensures.answers.cause.honesty honest in
    ok_always c.open_safe.result (HasSynced g.D.Disk old c.open_safe.new.disk)
    (opens_synced g.D.Disk old mid c.open_safe.new.disk c.sync.result (c.sync.ensures.facts honest_mid) (c.sync.ensures.time honest_mid) (c.open_safe.ensures.moments honest) honest_mid
    (λ image left. g.met.D.Disk.only_now mid image honest_mid left) (c.in_ok-sync.ensures.facts honest_mid).durable)
