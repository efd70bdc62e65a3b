-- If the file was made, its records are counted.
use Rattle.posting_journal.proofs.Names.{◌≡◌, ◌≤◌, ◌∙◌, subst, arith, IfErr, OnOk, OpenedTo, EndsAt, IsBadFrom, ShowsWhy}
use Rattle.posting_journal.specs.inside.Kinds.{IsOfKind}
use Rattle.posting_journal.specs.inside.Unopened.{TellsCount}
use Rattle.posting_journal.specs.declared.judging.FileKind.TheVariants.{Made}
use Rattle.posting_journal.proofs.Moments.{looked, looks_on}
use Rattle.posting_journal.proofs.Opened.{ok_from, err_from, bad_shown, made_opened}
use Rattle.posting_journal.proofs.opening.open_safe.Goals as goal

pub returns-in-Made-clause-answers : goal.returns-in-Made-clause-answers
returns-in-Made-clause-answers g c =
    let old = c.args.disk.now in
    let len = c.len.new.self in
    let mid = c.kind_of.new.disk in
    let new = c.count_records.new.disk in
    let told = c.count_records.ensures.cause in
    let back = told.honesty in
    let same : g.D.Disk.faults mid ≡ g.D.Disk.faults old = c.in_ok-begun.ensures.cause.disk.succeeded ∙ c.in_ok-size.ensures.cause.succeeded in
    let asked = λ (honest : g.D.Disk.honest len). looked g.D.Disk old len (c.len.ensures.facts honest) (c.len.ensures.time honest) in
    let read = λ (honest : g.D.Disk.honest mid). looks_on g.D.Disk old len mid (asked (c.kind_of.ensures.cause.honesty honest)) (c.kind_of.ensures.unwritten honest) in
    let kind : g.D.Disk.honest mid → IsOfKind (g.D.Disk.reads old) Made = λ honest.
    subst (λ b. IsOfKind b Made) (asked (c.kind_of.ensures.cause.honesty honest)).reads (subst (λ k. IsOfKind (g.D.Disk.reads len) k) c.in-Made.is (c.in_ok-begun.ensures.kind honest)) in
    record {
      cause = record {
        later = omega (arith, same, told.later);
        failed = subst (λ n. IfErr c.count_records.result (TellsCount n (g.D.Disk.faults new))) same told.failed;
        succeeded = subst (λ n. OnOk c.count_records.result (g.D.Disk.faults new ≡ n)) same told.succeeded;
        honesty = λ honest. c.len.ensures.honesty (c.kind_of.ensures.cause.honesty (back honest));
      };
      few = c.count_records.ensures.few;
      opened = λ honest.
          let looks = looks_on g.D.Disk old mid new (read (back honest)) (c.count_records.ensures.unwritten honest) in
          ok_from c.count_records.result (λ n. n ≤ 4000000) (λ n. EndsAt (g.D.Disk.reads mid) n) (λ n. OpenedTo g.D.Disk old new n) c.count_records.ensures.few (c.count_records.ensures.ends honest)
          (λ n few ends. made_opened g.D.Disk old new n looks (c.requires.safe (c.len.ensures.honesty (c.kind_of.ensures.cause.honesty (back honest)))) (kind (back honest)).0 few (subst (λ b. EndsAt b n) (read (back honest)).reads ends));
      made = λ honest unfinished. absurd ((kind (back honest)).2 unfinished);
      refused = λ honest.
          let k = kind (back honest) in
          err_from c.count_records.result (λ cause. IsBadFrom (g.D.Disk.reads mid) cause) (λ cause. ShowsWhy (g.D.Disk.reads old) cause) (c.count_records.ensures.bad honest)
          (λ cause bad. bad_shown (g.D.Disk.reads old) cause k.0 (subst (λ b. IsBadFrom b cause) (read (back honest)).reads bad));
    }
