-- The decimal that the reader's parts stand for.
use Rattle.decimal_text.specs.Decimal.{Decimal}
use Rattle.decimal_text.specs.declared.parts.Parts.{Parts}

abbrev pub decimal_of : Parts → Decimal
decimal_of parts = record { whole = parts.whole.now; fraction = parts.fraction.now; raised = parts.raised; lowered = parts.lowered }
