-- The books that a list of accepted commands leaves, in cents
use Rattle.std.specs.Prelude.{List, [], ◌∷◌, ◌++◌}
use Rattle.policy_machine.specs.Names.{fold, option_map_or, Command, Booking, booking_of, nothing_booked, added, id_of}
use Rattle.policy_machine.specs.Book.{policy_of}

-- the balances: on each account the sum of what the commands booked, each by its policy as it was then
abbrev pub ledger_of : List Command → Booking
ledger_of commands = fold added nothing_booked (booked [] commands)
  where
    booked : List Command → List Command → List Booking
    booked before [] = []
    booked before (command ∷ rest) =
        option_map_or (booking_of command) (policy_of (before ++ command ∷ []) (id_of command)) nothing_booked
        ∷ booked (before ++ command ∷ []) rest
