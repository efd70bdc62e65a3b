-- The names from elsewhere that several modules cite, passed on from one place. Declares nothing.
pub use Rattle.std.specs.List.{AllByRecursion, sum_by, AllZip}
pub use Rattle.policy_types.specs.Limits.{most_commands}
pub use Rattle.policy_types.specs.Valid.{IsValid}
pub use Rattle.policy_types.specs.declared.command.Command.{Command, Command as ACommand}
pub use Rattle.policy_types.specs.declared.command.Command.TheVariants.{Premium, Reinstate, Issue, Settle}
pub use Rattle.policy_types.specs.declared.watcher.Report.{Report}
pub use Rattle.policy_types.specs.declared.watcher.Watcher.{Ghosts}
