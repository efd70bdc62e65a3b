-- The record is written behind a closed gate, and then the gate is opened.
use Rattle.posting_journal.proofs.Names.{inl, Ok, refl, ◌∙◌, ap, arith, ◌∷◌, [], ◌++◌, length, length_push, Holds, gate_place, IsJournal, IsStaged, IsBeforeOrAfter, IsSafe}
use Rattle.std.proofs.lemmas.Result.{err_from_is_err_and}
use Rattle.posting_journal.proofs.Moments.{leaves_on, leaves_more}
use Rattle.posting_journal.proofs.Staging.{record_staged, gate_written, clean_kept, each_safe, puts_at, told_ok}
use Rattle.posting_journal.proofs.Written.{written_opened, staged_either}
use Rattle.posting_journal.proofs.journal.Journal.append.Goals as goal

pub returns-in_err-told-clause-appends : goal.returns-in_err-told-clause-appends
returns-in_err-told-clause-appends g c = λ bodies faulted honest stands.
    let old = c.args.self.now in
    let body = c.args.body.now in
    let new = c.write_and_sync-staged.new.disk in
    let s = record_staged g.D.Disk old.disk new old.clean old.count c.body_place.result bodies faulted body c.staged_record-record.result c.write_and_sync-staged.result c.requires.clean c.requires.room (omega arith) stands.count stands.reads stands.images
    (λ image left. g.met.D.Disk.only_now old.disk image (c.write_and_sync-staged.ensures.cause.honesty honest) left) c.body_place.ensures c.staged_record-record.ensures (c.write_and_sync-staged.ensures.facts honest) in
    let p = err_from_is_err_and c.from_residual.result c.from_residual.ensures.1 in
    rw p.1 (record {
      done = tt;
      failed = record {
        count = stands.count;
        reads = clean_kept old.clean bodies body (g.D.Disk.reads new) c.requires.clean s.reads;
        images = λ image left. clean_kept old.clean bodies body image c.requires.clean (s.images image left);
      };
      moments = leaves_more g.D.Disk old.disk new (λ image. IsJournal image bodies) (IsBeforeOrAfter bodies body) s.moments (λ image journal. inl journal);
    })

pub returns-in_err-told-2-clause-appends : goal.returns-in_err-told-2-clause-appends
returns-in_err-told-2-clause-appends g c = λ bodies faulted honest stands.
    let old = c.args.self.now in
    let body = c.args.body.now in
    let mid = c.write_and_sync-staged.new.disk in
    let new = c.write_and_sync-opened.new.disk in
    let honest_mid = c.write_and_sync-opened.ensures.cause.honesty honest in
    let s = record_staged g.D.Disk old.disk mid old.clean old.count c.body_place.result bodies faulted body c.staged_record-record.result c.write_and_sync-staged.result c.requires.clean c.requires.room (omega arith) stands.count stands.reads stands.images
    (λ image left. g.met.D.Disk.only_now old.disk image (c.write_and_sync-staged.ensures.cause.honesty honest_mid) left) c.body_place.ensures c.staged_record-record.ensures (c.write_and_sync-staged.ensures.facts honest_mid) in
    let staged = told_ok c.write_and_sync-staged.result (Ok c.in_ok-told.field-0) c.in_ok-told.field-0 _ (IsStaged (g.D.Disk.reads mid) bodies body × IsSafe g.D.Disk mid) refl c.in_ok-told.ensures s.staged in
    let a = gate_written g.D.Disk mid new old.count c.gate_place.result 1 bodies body c.write_and_sync-opened.result stands.count staged
    (λ image left. g.met.D.Disk.only_now mid image honest_mid left) c.gate_place.ensures (c.write_and_sync-opened.ensures.facts honest) in
    let p = err_from_is_err_and c.from_residual-in_err-told-2.result c.from_residual-in_err-told-2.ensures.1 in
    rw p.1 (record {
      done = tt;
      failed = record { count = stands.count; reads = a.reads; images = a.images };
      moments = leaves_on g.D.Disk old.disk mid new (λ image. IsJournal image bodies) (IsBeforeOrAfter bodies body) s.moments
          (leaves_more g.D.Disk mid new (λ image. IsStaged image bodies body) (IsBeforeOrAfter bodies body) a.moments (staged_either bodies body)) (λ image journal. inl journal);
    })

pub returns-clause-appends : goal.returns-clause-appends
returns-clause-appends g c = λ bodies faulted honest stands.
    let old = c.args.self.now in
    let body = c.args.body.now in
    let mid = c.write_and_sync-staged.new.disk in
    let new = c.write_and_sync-opened.new.disk in
    let honest_mid = c.write_and_sync-opened.ensures.cause.honesty honest in
    let s = record_staged g.D.Disk old.disk mid old.clean old.count c.body_place.result bodies faulted body c.staged_record-record.result c.write_and_sync-staged.result c.requires.clean c.requires.room (omega arith) stands.count stands.reads stands.images
    (λ image left. g.met.D.Disk.only_now old.disk image (c.write_and_sync-staged.ensures.cause.honesty honest_mid) left) c.body_place.ensures c.staged_record-record.ensures (c.write_and_sync-staged.ensures.facts honest_mid) in
    let staged = told_ok c.write_and_sync-staged.result (Ok c.in_ok-told.field-0) c.in_ok-told.field-0 _ (IsStaged (g.D.Disk.reads mid) bodies body × IsSafe g.D.Disk mid) refl c.in_ok-told.ensures s.staged in
    let a = gate_written g.D.Disk mid new old.count c.gate_place.result 1 bodies body c.write_and_sync-opened.result stands.count staged
    (λ image left. g.met.D.Disk.only_now mid image honest_mid left) c.gate_place.ensures (c.write_and_sync-opened.ensures.facts honest) in
    let puts = puts_at g.D.Disk mid new c.gate_place.result (gate_place (length bodies)) (1 ∷ []) (1 ∷ []) _ (c.write_and_sync-opened.ensures.facts honest) (c.gate_place.ensures ∙ ap gate_place stands.count) refl in
    let written = told_ok c.write_and_sync-opened.result (Ok c.in_ok-told-2.field-0) c.in_ok-told-2.field-0 _ (Holds (g.D.Disk.reads mid) (gate_place (length bodies)) (1 ∷ []) (g.D.Disk.reads new)) refl c.in_ok-told-2.ensures puts.facts.written in
    let safe = told_ok c.write_and_sync-opened.result (Ok c.in_ok-told-2.field-0) c.in_ok-told-2.field-0 _ (IsSafe g.D.Disk new) refl c.in_ok-told-2.ensures puts.durable in
    let reads : IsJournal (g.D.Disk.reads new) (bodies ++ body ∷ []) = written_opened bodies body (g.D.Disk.reads mid) (g.D.Disk.reads new) staged.0 written in
    record {
      done = (
        record {
          count = omega (arith, stands.count, length_push bodies body);
          reads = reads;
          images = each_safe g.D.Disk new (λ image. IsJournal image (bodies ++ body ∷ [])) safe reads;
        },
        safe,
      );
      failed = tt;
      moments = leaves_on g.D.Disk old.disk mid new (λ image. IsJournal image bodies) (IsBeforeOrAfter bodies body) s.moments
          (leaves_more g.D.Disk mid new (λ image. IsStaged image bodies body) (IsBeforeOrAfter bodies body) a.moments (staged_either bodies body)) (λ image journal. inl journal);
    }
