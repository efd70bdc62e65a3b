use Rattle.office_state.proofs.BookValues.{key_count, keys_of-until, until-sets_of}
use Rattle.office_state.proofs.version_laws.keys_law.Goals as goal

pub returns-clause-until : goal.returns-clause-until
returns-clause-until c = until-sets_of

pub returns-clause-keys : goal.returns-clause-keys
returns-clause-keys c = keys_of-until

pub returns-clause-count : goal.returns-clause-count
returns-clause-count c = key_count
