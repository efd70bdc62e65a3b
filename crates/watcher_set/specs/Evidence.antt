-- The evidence that memory was refused. It says nothing more: all its values are alike
use Rattle.watcher_set.specs.declared.evidence.Lack.{Lack}

abbrev pub a_lack : Lack
a_lack = record { wanting = tt }
