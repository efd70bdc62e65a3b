-- Parts of the definitions, by names that the proofs cite: each is a word of the library, or stands in a definition.
use Rattle.std.proofs.Common.{ℕ, ◌+◌, ◌-◌, ◌==◌, ◌^◌, ◌≤◌, min, Bool, ◌||◌, if◌then◌else◌, List, [], ◌∷◌, ◌++◌, Some, None, Option, Ok, Err, Result}
use Rattle.std.specs.List.{filter}
use Rattle.std.specs.Option.{option_map, option_map_or, option_or}
use Rattle.std.specs.Result.{result_ok, result_err, result_map_both}
use Rattle.policy_types.specs.Accounts.{Booking, benefit_incurred, booking_of, nothing_booked}
use Rattle.policy_types.specs.Valid.{id_of, is_upgrade}
use Rattle.policy_types.specs.declared.command.Command.{Command}
use Rattle.policy_types.specs.declared.command.Plan.{Plan}
use Rattle.policy_types.specs.declared.command.Plan.TheVariants.{Term, Whole, Endowment, Limited}
use Rattle.policy_types.specs.declared.entry.Call.{Call}
use Rattle.policy_types.specs.declared.entry.Call.TheVariants.{Post}
use Rattle.policy_types.specs.declared.entry.Reply.{Reply}
use Rattle.policy_types.specs.declared.entry.Reply.TheVariants.{Accepted, Pinned, Floor}
use Rattle.policy_types.specs.declared.policy.Policy.{Policy}
use Rattle.policy_types.specs.declared.policy.Status.{Status}
use Rattle.policy_types.specs.declared.policy.Status.TheVariants.{InForce, Lapsed, Matured, PaidUp}
use Rattle.policy_types.specs.declared.refusal.Refusal.{Refusal}
use Rattle.policy_machine.specs.Book.{policy_of}
use Rattle.policy_machine.specs.Names.{status_eq}

abbrev pub own : List Command → ℕ → List Command
own commands id = filter (λ command. id_of command == id) commands

abbrev pub kept : Option Policy → Result Policy Refusal → Option Policy
kept before decision = option_or (result_ok decision) before

abbrev pub left_by : Result Policy Refusal → Result (Option Policy) Refusal
left_by decision = result_map_both Some (λ refusal. refusal) decision

abbrev pub refusal_in : Result (Option Policy) Refusal → Option Refusal
refusal_in judged = result_err judged

abbrev pub decided : Option Refusal → Policy → Result Policy Refusal
decided refusal after = option_map_or Err refusal (Ok after)

abbrev pub upgrade_from : ℕ → List Command → ℕ
upgrade_from place [] = 0
upgrade_from place (command ∷ rest) = if is_upgrade command then place else upgrade_from (place + 1) rest

abbrev pub booked_on : Option Policy → Command → Booking
booked_on policy command = option_map_or (booking_of command) policy nothing_booked

abbrev pub booked_after : List Command → Command → Booking
booked_after before command = booked_on (policy_of (before ++ command ∷ []) (id_of command)) command

abbrev pub bookings_after : List Command → List Command → List Booking
bookings_after before [] = []
bookings_after before (command ∷ rest) = booked_after before command ∷ bookings_after (before ++ command ∷ []) rest

abbrev pub accepted_by : Call → Reply → Option Command
accepted_by (Post command) (Accepted position) = Some command
accepted_by _ _ = None

abbrev pub IsAbove : ℕ → ℕ → Type 0
IsAbove earlier count = min (earlier + 1) (2 ^ 64 - 1) ≤ count

abbrev pub pin_of : Reply → Option (ℕ × ℕ)
pin_of (Pinned position policies) = Some (position, policies)
pin_of _ = None

abbrev pub pinned_position : Option (ℕ × ℕ) → Option ℕ
pinned_position held = option_map (λ pin. pin.0) held

abbrev pub floor_set : Reply → Option ℕ
floor_set (Floor floor) = Some floor
floor_set _ = None

abbrev pub years_in : Plan → ℕ → ℕ → ℕ
years_in plan age years = by_plan plan
  where
    by_plan : Plan → ℕ
    by_plan Term = years
    by_plan Whole = 131 - age
    by_plan Endowment = years
    by_plan Limited = 131 - age

abbrev pub payments_in : Plan → ℕ → ℕ → ℕ
payments_in plan age years = by_plan plan
  where
    by_plan : Plan → ℕ
    by_plan Term = years
    by_plan Whole = 131 - age
    by_plan Endowment = years
    by_plan Limited = years

abbrev pub is_paid_up : Status → Bool
is_paid_up status = status_eq.it status PaidUp

abbrev pub is_in_force : Status → Bool
is_in_force status = status_eq.it status InForce

abbrev pub is_lapsed : Status → Bool
is_lapsed status = status_eq.it status Lapsed

abbrev pub is_insured : Status → Bool
is_insured status = is_in_force status || is_paid_up status

abbrev pub booked_at_term : Status → ℕ → Booking
booked_at_term status amount = if status_eq.it status Matured then benefit_incurred amount else nothing_booked
