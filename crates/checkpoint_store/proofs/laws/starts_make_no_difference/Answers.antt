use Rattle.checkpoint_store.proofs.OneSnapshot.{all_or_bad, one_bad, one_of_all}
use Rattle.checkpoint_store.proofs.laws.starts_make_no_difference.Goals as goal

pub returns-clause-same : goal.returns-clause-same
returns-clause-same c = λ file other bodies s t of_s of_t. one_of_all bodies s t of_s of_t

pub returns-clause-record : goal.returns-clause-record
returns-clause-record c = λ file other bodies n m bad_n bad_m. one_bad bodies n m bad_n.bad bad_m.bad

pub returns-clause-exact : goal.returns-clause-exact
returns-clause-exact c = λ file other bodies s n all bad. all_or_bad bodies s n all bad.bad
