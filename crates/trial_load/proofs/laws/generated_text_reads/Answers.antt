use Rattle.trial_load.proofs.ReadsBack.{reads_back}
use Rattle.trial_load.proofs.laws.generated_text_reads.Goals as goal

pub returns : goal.returns
returns c = reads_back
