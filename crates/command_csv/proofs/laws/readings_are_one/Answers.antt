use Rattle.command_csv.proofs.OneReading.{one_reading}
use Rattle.command_csv.proofs.laws.readings_are_one.Goals as goal

pub returns : goal.returns
returns c = one_reading
