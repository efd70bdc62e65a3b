-- The evidence that memory was refused. It says nothing more: all its values are alike
use Rattle.memory_requests.specs.declared.evidence.NoMemory.{NoMemory}

abbrev pub a_refusal : NoMemory
a_refusal = record { refused = tt }
