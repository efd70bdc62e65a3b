-- The gate was closed, or the record of the fault may still be there.
use Rattle.posting_journal.proofs.Names.{[], ◌∷◌, length, refl, ◌∙◌, ap, Ok, Holds, gate_place, IsJournal, IsStaged, IsBeforeOrAfter, IsSafe}
use Rattle.std.proofs.lemmas.Result.{err_from_is_err_and}
use Rattle.posting_journal.proofs.Moments.{leaves_more}
use Rattle.posting_journal.proofs.Staging.{gating, puts_at, each_safe, kept_unclean, unclean_kept, told_ok}
use Rattle.posting_journal.proofs.Written.{within, written_byte, written_closed, staged_either}
use Rattle.posting_journal.proofs.journal.Journal.repair.Goals as goal

pub returns-clause-repairs : goal.returns-clause-repairs
returns-clause-repairs g c = λ bodies faulted honest stands.
    let old = c.args.self.now in
    let new = c.write_and_sync-closed.new.disk in
    let bytes = g.D.Disk.reads old.disk in
    let puts = puts_at g.D.Disk old.disk new c.gate_place.result (gate_place (length bodies)) (0 ∷ []) (0 ∷ []) _ (c.write_and_sync-closed.ensures.facts honest) (c.gate_place.ensures ∙ ap gate_place stands.count) refl in
    let staged = kept_unclean old.clean bodies faulted bytes c.requires stands.reads in
    let s = gating g.D.Disk old.disk new bodies faulted 0 _ staged
    (λ image left. kept_unclean old.clean bodies faulted image c.requires (stands.images image left))
    (λ image left. g.met.D.Disk.only_now old.disk image (c.write_and_sync-closed.ensures.cause.honesty honest) left) puts in
    let written = told_ok c.write_and_sync-closed.result (Ok c.in_ok-told.field-0) c.in_ok-told.field-0 _ (Holds bytes (gate_place (length bodies)) (0 ∷ []) (g.D.Disk.reads new)) refl c.in_ok-told.ensures puts.facts.written in
    let safe = told_ok c.write_and_sync-closed.result (Ok c.in_ok-told.field-0) c.in_ok-told.field-0 _ (IsSafe g.D.Disk new) refl c.in_ok-told.ensures puts.durable in
    let reads : IsJournal (g.D.Disk.reads new) bodies = written_closed bodies faulted bytes (g.D.Disk.reads new) staged written in
    record {
      done = (record { count = stands.count; reads = reads; images = each_safe g.D.Disk new (λ image. IsJournal image bodies) safe reads }, safe);
      closed = written_byte bytes (gate_place (length bodies)) 0 (g.D.Disk.reads new) (within bodies faulted bytes (g.D.Disk.reads new) staged) written;
      failed = tt;
      moments = leaves_more g.D.Disk old.disk new (λ image. IsStaged image bodies faulted) (IsBeforeOrAfter bodies faulted) s.moments (staged_either bodies faulted);
    }

pub returns-in_err-told-clause-repairs : goal.returns-in_err-told-clause-repairs
returns-in_err-told-clause-repairs g c = λ bodies faulted honest stands.
    let old = c.args.self.now in
    let new = c.write_and_sync-closed.new.disk in
    let puts = puts_at g.D.Disk old.disk new c.gate_place.result (gate_place (length bodies)) (0 ∷ []) (0 ∷ []) _ (c.write_and_sync-closed.ensures.facts honest) (c.gate_place.ensures ∙ ap gate_place stands.count) refl in
    let s = gating g.D.Disk old.disk new bodies faulted 0 _ (kept_unclean old.clean bodies faulted (g.D.Disk.reads old.disk) c.requires stands.reads)
    (λ image left. kept_unclean old.clean bodies faulted image c.requires (stands.images image left))
    (λ image left. g.met.D.Disk.only_now old.disk image (c.write_and_sync-closed.ensures.cause.honesty honest) left) puts in
    let p = err_from_is_err_and c.from_residual.result c.from_residual.ensures.1 in
    rw p.1 (record {
      done = tt;
      closed = tt;
      failed = record {
        count = stands.count;
        reads = unclean_kept old.clean bodies faulted (g.D.Disk.reads new) c.requires s.reads;
        images = λ image left. unclean_kept old.clean bodies faulted image c.requires (s.images image left);
      };
      moments = leaves_more g.D.Disk old.disk new (λ image. IsStaged image bodies faulted) (IsBeforeOrAfter bodies faulted) s.moments (staged_either bodies faulted);
    })
