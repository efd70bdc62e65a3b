-- The names that several proofs cite, passed on from one place. Declares nothing.
pub use Rattle.std.proofs.Common.{refl, arith, ◌≡◌, [], ◌∷◌, true, false, ◌∙◌, Some, ℕ, ap, List, None, Option, ◌≤◌, ◌==◌, Bool, sym, ◌⊎◌, inl, inr, ◌++◌, Ok, Result, ◌+◌, subst, ℤ, append_assoc, append-nil, if◌then◌else◌, Err, cond, pos, IfSome, suc, ◌<◌, length, rules, ◌-◌, IfOk, filter_map, zero, w32, to_z, of_z, ne_eqb, ◌↔◌, not, int_lt, ◌-ℤ◌, nat_eq, map, eqb-true, eq-eqb, ◌||◌, take, drop, slice_get, ◌*◌, ◌+ℤ◌, min, int_le, ◌&&◌, nat_lt, nat_le, IsTrue, to_z-of_z}
pub use Rattle.std.proofs.lemmas.Bool.{eqb-false, cases_lt}
pub use Rattle.std.proofs.lemmas.Int.{ints}
pub use Rattle.std.proofs.lemmas.List.Elements.{filter_map-append, filter-append}
pub use Rattle.std.proofs.lemmas.List.Sums.{fold-append, sum_by-cons, count_by-le-length}
unfoldable pub use Rattle.std.specs.List.{IsDistinct}
pub use Rattle.std.specs.List.{AllByRecursion, fold, cons_option, range_with_len, list_any, last_or, count_by}
unfoldable pub use Rattle.life_dates.specs.Anniversary.{anniversary_of}
pub use Rattle.life_dates.specs.Anniversary.{IsCompleted}
unfoldable pub use Rattle.life_dates.specs.Calendar.{day_number, date_of, month_of, days_before_year, days_of_months}
pub use Rattle.life_dates.specs.Calendar.{IsDay}
pub use Rattle.policy_machine.specs.Book.{policy_of, issue_id, book, judge, IsAccepted, IsAcceptedAfter, upgrade_of, IsSameContract, judged}
pub use Rattle.policy_machine.specs.History.{Opening, IsDue, IsLegalAfter, accepted_of, least_or, commands_after, gives_up, live_pin, live_positions, floor_of, policies_per_read}
pub use Rattle.policy_machine.specs.Rules.{next, checks_of, changed, matured, payments_of, first_refusal, IsSound, premiums_missed, issued, due_of, Check, refuse, day_before_last, not_in_force, not_insured, term_over, nothing_due, grace_over, grace_end_of, end_of, awaits_settlement}
pub use Rattle.policy_machine.proofs.Parts.{is_insured}
pub use Rattle.policy_machine.proofs.Parts.{is_in_force, is_paid_up, is_lapsed}
pub use Rattle.policy_machine.proofs.Parts.{own, kept, left_by, refusal_in, upgrade_from, accepted_by, pin_of, pinned_position, floor_set, decided}
pub use Rattle.policy_machine.specs.Worked.Cases.{turn, policy_issue, premium_on, policy_with}
pub use Rattle.policy_types.specs.Valid.{id_of, IsValid, day_of, is_upgrade, IsIssue, IsAmount, IsCommandDay}
pub use Rattle.policy_types.specs.declared.command.Command.{Command}
pub use Rattle.policy_types.specs.declared.command.Command.TheVariants.{Upgrade, Issue, Premium, Alter, Lapse, Reinstate, Claim, Settle, Mature, PaidUp as MakePaidUp, PaidUp}
pub use Rattle.policy_types.specs.declared.command.Plan.{Plan}
pub use Rattle.policy_types.specs.declared.command.Plan.TheVariants.{Term, Whole, Endowment, Limited}
pub use Rattle.policy_types.specs.declared.entry.Call.TheVariants.{Pin, Post, PinAt, Unpin, Trim, Read}
pub use Rattle.policy_types.specs.declared.entry.Reply.TheVariants.{Pinned, Accepted, Unpinned, Floor, PinRefused, Slice as Policies, Refused, Faulted, Blank}
pub use Rattle.policy_types.specs.declared.policy.Policy.{Policy}
pub use Rattle.policy_types.specs.declared.policy.Status.{Status}
pub use Rattle.policy_types.specs.declared.refusal.Refusal.{Refusal}
pub use Rattle.policy_types.specs.declared.refusal.Refusal.TheVariants.{Unknown, Taken, NotUpgraded, Upgraded, WrongStatus, TooEarly, GraceOver, WrongAmount, NotAReduction, NotMatured}
