use Rattle.life_app.proofs.WorkedBoth.{both_refuse, both_words, two_filings, no_words}
use Rattle.life_app.proofs.worked.words_for_both.Goals as goal

pub returns : goal.returns
returns g c = record {
  words = both_words;
  faults = two_filings;
  refused = λ disks output are reads ends. both_refuse g.D.Disk g.E.Disk disks output are reads ends;
  unread = no_words;
}
