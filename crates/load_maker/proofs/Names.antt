-- The names that several proofs cite, passed on from one place. Declares nothing.
pub use Rattle.std.proofs.Common.{◌≡◌, ℕ, List, refl, ap, ◌∙◌, suc, ◌+◌, ◌≤◌, [], ◌∷◌, ◌++◌, sym, arith, zero, ◌<◌, ◌==◌, false, length, map, subst, append-nil, length-append, ◌%◌, Bool, true, add-one, ◌*◌, Vec, Global}
pub use Rattle.std.specs.List.{AllByRecursion, filter}
unfoldable pub use Rattle.load_maker.specs.GeneratedLanes.{generated_lanes}
pub use Rattle.command_csv.specs.Reads.{lanes_up_to, lines_of}
pub use Rattle.command_csv.specs.inside.Words.{lane_of}
pub use Rattle.command_csv.specs.declared.row.ClerkLine.{ClerkLine}
pub use Rattle.load_maker.specs.GeneratedLanes.{AreDealt, IsValidPosting}
unfoldable pub use Rattle.load_maker.specs.GeneratedRows.{generated_rows}
pub use Rattle.load_maker.specs.inside.Rows.{drawn_below, policy_rows, plan_drawn, years_drawn, drawn_issue, drawn_premium, script_row_text}
pub use Rattle.load_maker.proofs.Renewing.{renewed_by_policy}
unfoldable pub use Rattle.load_maker.specs.Generator.{state_after, policy_drawn}
pub use Rattle.load_maker.specs.Generator.{policy_of_draws, renewed}
pub use Rattle.policy_types.specs.declared.script.Line.{Line}
