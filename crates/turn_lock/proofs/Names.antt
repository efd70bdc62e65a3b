-- The names that several proofs cite, passed on from one place. Declares nothing.
pub use Rattle.std.proofs.Common.{sym, ap, ◌∙◌, ◌≡◌, ◌∷◌, ℕ, List, [], subst, ◌≢◌, refl, arith, ◌<◌, ◌≤◌, rules, Some, ◌++◌, length, Option, ◌+◌, eqb, None, set, Bool, cond, inl, inr, eq-eqb, ne_eqb, length-append, ◌⊎◌, ⊎_elim, ◌-◌, ◌/◌, false, ◌%◌, ◌^◌, get_or, zero, suc}
unfoldable pub use Rattle.std.specs.List.{IsDistinct}
pub use Rattle.std.specs.List.{AllByRecursion, Contains}
pub use mathlib.Core.Logic.{dite}
pub use mathlib.Core.Option.{some, some-injective, some-ne-none, none}
pub use native.Mathlib.Decide.{ℕ_discrete}
pub use Rattle.atomic_table.proofs.Lists.{set_here, at_set, set_else, at_snoc, at_longer, set_again, exchanged}
pub use Rattle.atomic_table.specs.Table.{State, Splits, Joins, Final, Seen, step, Act, keeps, takes, gives, stepped, Allows, rest, opening}
pub use Rattle.policy_types.specs.declared.entry.Entry.{Entry}
pub use Rattle.turn_lock.specs.History.{StartsWith, entries_of, longer}
pub use Rattle.turn_lock.specs.Passes.{Page, Holding, all_turns, all_shares, PassFacts, OwnsAll, Enters}
pub use Rattle.turn_lock.specs.declared.seats.Kept.{Kept}
pub use Rattle.turn_lock.specs.declared.seats.Stage.TheVariants.{Unnamed, Idle, Inside, Spent}
pub use Rattle.turn_lock.specs.declared.seats.View.{View}
pub use Rattle.turn_lock.specs.inside.Places.{IsPass, holding, IsNow}
pub use Rattle.turn_lock.specs.inside.Rule.{LockRule, SeatStands, PageStands, StageStands, SlotStands}
pub use Rattle.turn_lock.specs.inside.Seats.{numbers, IsLive, own, pages, IsNamed, units_at, units, shares, first_view, SeatFacts, total, shorter, kept_half, given_half, named, joined, spent_view, pages_at, inside, handed_on, compared}
pub use lib.ListN.{get_elem?}
