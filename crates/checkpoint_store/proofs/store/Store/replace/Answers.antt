-- The snapshot is written behind a closed gate, and then the gate is opened.
use Rattle.checkpoint_store.proofs.Names.{rules}
use Rattle.checkpoint_store.proofs.Stages.{not_new, shut_left, then_opened}
use Rattle.checkpoint_store.proofs.store.Store.replace.Goals as goal

pub returns-in_err-write_rest-clause-saves : goal.returns-in_err-write_rest-clause-saves
returns-in_err-write_rest-clause-saves g c = λ honest knows.
    let old = c.args.self.now in
    let new = c.write_rest.new.self in
    record {
      saved = search rules;
      left = not_new g.E.Disk old new c.args.snapshot.now (shut_left g.E.Disk old new (c.write_rest.ensures.shut honest knows) c.write_rest.ensures.closed
          (λ image left. g.met.E.Disk.only_now old.disk image (c.write_rest.ensures.disk.honesty honest) left));
    }

pub returns-clause-saves : goal.returns-clause-saves
returns-clause-saves g c = λ honest knows.
    let old = c.args.self.now in
    let mid = c.write_rest.new.self in
    let honest_mid = c.open.ensures.disk.honesty honest in
    let written = c.in_ok-write_rest.ensures.written honest_mid knows in
    let opens = c.open.ensures.gates honest written.0 written.1 in
    record {
      saved = opens.saved;
      left = then_opened g.E.Disk old mid c.open.new.self c.args.snapshot.now c.open.result (c.write_rest.ensures.shut honest_mid knows) opens c.open.ensures.opened
          (λ image left. g.met.E.Disk.only_now old.disk image (c.write_rest.ensures.disk.honesty honest_mid) left)
          (λ image left. g.met.E.Disk.only_now mid.disk image honest_mid left);
    }
