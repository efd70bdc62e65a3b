use Rattle.life_cli.proofs.Names.{ℕ, inl, inr, refl, ap, ◌∙◌, length, NoMemory, shipped_auditors}
use Rattle.std.specs.Prelude.{◌==◌}
use denote.Param.Object.{read_made}
use Rattle.watcher_set.specs.Evidence.{a_lack}
use Rattle.watcher_set.specs.Noted.{Auditor}
use Rattle.watcher_set.specs.declared.counting.CountWatcher.{CountWatcher}
use Rattle.outside_io.specs.FileLaws.{left_only_now}
use Rattle.life_cli.proofs.Promised.{given_up, obeys_with, seen_of_two, shipped}
use Rattle.life_cli.proofs.shipped.obey.OwnLists.{own-1}
use Rattle.life_cli.proofs.shipped.obey.Goals as goal

-- the watcher counts commands, and is done at four million
abbrev counting : ℕ → Auditor
counting limit = record { stops = λ commands. length commands == limit; number = λ commands. length commands }

pub returns-in-Err-clause-shipped : goal.returns-in-Err-clause-shipped
returns-in-Err-clause-shipped g c = given_up _ _ c.args.disk _ c.args.second _ _ _ _ _ _ _ _ (λ disk image honest left. left_only_now g.F.FoundFile.bytes g.F.FoundFile.torn g.F.FoundFile.unsynced disk.file.calls image left)
    (record { ending = NoMemory a_lack; exits = c.give_up-status.ensures.status; does = inr (refl, refl, refl, refl, c.give_up-status.ensures.wrote) })
    c.give_up-status.ensures.status refl

pub returns-in-Err-boxed-clause-shipped : goal.returns-in-Err-boxed-clause-shipped
returns-in-Err-boxed-clause-shipped g c = given_up _ _ c.args.disk _ c.args.second _ _ _ _ _ _ _ _ (λ disk image honest left. left_only_now g.F.FoundFile.bytes g.F.FoundFile.torn g.F.FoundFile.unsynced disk.file.calls image left)
    (record { ending = NoMemory a_lack; exits = c.give_up-status-in-Err-boxed.ensures.status; does = inr (refl, refl, refl, refl, c.give_up-status-in-Err-boxed.ensures.wrote) })
    c.give_up-status-in-Err-boxed.ensures.status refl

pub returns-in-Err-reserve-clause-shipped : goal.returns-in-Err-reserve-clause-shipped
returns-in-Err-reserve-clause-shipped g c = given_up _ _ c.args.disk _ c.args.second _ _ _ _ _ _ _ _ (λ disk image honest left. left_only_now g.F.FoundFile.bytes g.F.FoundFile.torn g.F.FoundFile.unsynced disk.file.calls image left)
    (record { ending = NoMemory a_lack; exits = c.give_up-status-in-Err-reserve.ensures.status; does = inr (refl, refl, refl, refl, c.give_up-status-in-Err-reserve.ensures.wrote) })
    c.give_up-status-in-Err-reserve.ensures.status refl

pub returns-clause-shipped : goal.returns-clause-shipped
returns-clause-shipped g c = shipped _ _ c.args.disk c.life_kept.result.disk c.args.second c.life_kept.result.second _ _ _ _ _ _ _
    (λ disk image honest left. left_only_now g.F.FoundFile.bytes g.F.FoundFile.torn g.F.FoundFile.unsynced disk.file.calls image left)
    (obeys_with _ _ _ _ _ _ _ _ _ _ _ _ _ _ shipped_auditors
    (
    seen_of_two _ _ _ _ _ _ _ _ _ c.push_reserved-2.ensures.items c.push_reserved.ensures.items c.reserve.ensures.items c.new-auditors.ensures.items
    (
    read_made own-1 (own-1.entry (inl tt)) (inl tt) refl Auditor (λ j v. record { stops = j.1.stops v; number = j.1.number v })
    c.into_dyn_box.result.vtable c.into_dyn_box.result.value _ c.into_dyn_box.ensures.1
    ∙ ap counting
    (ap (λ (auditor : CountWatcher). auditor.limit) c.in-Ok.ensures.ok ∙ c.new.ensures.limit)
    )
    (
    read_made own-1 (own-1.entry (inr (inl tt))) (inr (inl tt)) refl Auditor (λ j v. record { stops = j.1.stops v; number = j.1.number v })
    c.into_dyn_box-2.result.vtable c.into_dyn_box-2.result.value _ c.into_dyn_box-2.ensures.1
    ∙ refl
    )
    )
    c.life_kept.ensures.obeys)
    c.life_kept.ensures.reason c.life_kept.ensures.due c.life_kept.ensures.unopened
