-- What a pass learns of a pin's turn
use Rattle.std.specs.Prelude.{ℕ, Ok, Err, Result}
use Rattle.shared_office.specs.Names.{PinRefusal, Held}
use Rattle.office_state.specs.declared.held.PinInfo.{PinInfo}

-- the pin of a caller by what the state reported of it, with the place of its turn for its number
abbrev pub pin_told : ℕ → ℕ → Result PinInfo PinRefusal → Result Held PinRefusal
pin_told turn caller (Ok info) =
    Ok (record { number = turn; caller = caller; position = info.position; policies = info.policies })
pin_told turn caller (Err refusal) = Err refusal
