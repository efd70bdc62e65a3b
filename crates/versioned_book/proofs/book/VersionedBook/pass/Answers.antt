use Rattle.versioned_book.proofs.Names.{◌≤◌, arith, positions}
use Rattle.versioned_book.proofs.SettingSteps.{rising-longer}
use Rattle.versioned_book.proofs.book.VersionedBook.pass.Goals as goal

pub returns-clause-book : goal.returns-clause-book
returns-clause-book g c = λ sets h.
    let later : c.args.self.now.last ≤ c.args.position = omega (arith, c.requires.rising) in
    record {
      order = h.order;
      kept = h.kept;
      absent = h.absent;
      rising = rising-longer 0 (positions sets) c.args.self.now.last c.args.position h.rising later;
      floor = omega (arith, h.floor, later);
      firsts = rising-longer 0 c.args.self.now.firsts.items c.args.self.now.last c.args.position h.firsts later;
      begun = h.begun;
      counts = h.counts;
      count = h.count;
      bound = omega (arith, h.bound, later);
      told = h.told;
      few = omega (arith, h.few, later);
    }
