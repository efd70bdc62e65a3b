-- What the file shows.
use Rattle.checkpoint_store.proofs.Names.{rules, subst, arith, IsFrontOn}
use Rattle.checkpoint_store.proofs.InStore.{none_stored, other_figures, stored_all}
use Rattle.checkpoint_store.proofs.stored.stored.Goals as goal
use Rattle.checkpoint_store.proofs.stored.stored.Goals.{then-front-count-via-then-front-count, then-front-count-via-else-front-count+then-not-fits}

pub returns-in_default-clause-stored : goal.returns-in_default-clause-stored
returns-in_default-clause-stored g c = λ honest.
    none_stored (g.E.Disk.reads c.args.disk.now) c.args.count (subst (λ o. IsFrontOn (g.E.Disk.reads c.args.disk.now) o) c.in_default.is (c.in_ok-front.ensures.front honest))

pub returns-then-front-count-clause-stored : goal.returns-then-front-count-clause-stored
returns-then-front-count-clause-stored g c = λ honest.
    let file = g.E.Disk.reads c.args.disk.now in
    let front = c.in-Some.front in
    let on = subst (λ o. IsFrontOn file o) c.in-Some.is (c.in_ok-front.ensures.front honest) in
    elim c.then-front-count.branch [
      | then-front-count-via-then-front-count w ↦ other_figures file c.args.count front on.1 (λ le fit. omega (arith, le, w.if-front-count))
      | then-front-count-via-else-front-count+then-not-fits w ↦ other_figures file c.args.count front on.1 (λ le fit. search (rules, fit, w.fits.ensures, w.if-not-fits))
    ]

pub returns-clause-stored : goal.returns-clause-stored
returns-clause-stored g c = λ honest.
    let file = g.E.Disk.reads c.args.disk.now in
    let on = subst (λ o. IsFrontOn file o) c.in-Some.is (c.in_ok-front.ensures.front (c.books_behind.ensures.disk.honesty honest)) in
    stored_all file c.args.count c.in-Some.front c.books_behind.result on.0 on.1 (search (rules, c.books_behind.ensures.behind honest, c.in_ok-front.ensures.disk.looks)) c.books_behind.ensures.sound
