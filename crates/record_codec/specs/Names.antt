-- The names from elsewhere that several rooms cite, passed on from one place. Declares nothing.
pub use Rattle.std.specs.Int.{w32, w64, to_be_bytes, cast_unsigned}
pub use Rattle.policy_types.specs.Valid.{IsValid}
pub use Rattle.policy_types.specs.declared.command.Command.{Command}
pub use Rattle.policy_types.specs.declared.command.Command.TheVariants.{Issue, Premium, Alter, Lapse, Reinstate, Claim, Settle, Mature, PaidUp, Upgrade}
pub use Rattle.policy_types.specs.declared.command.Plan.{Plan}
pub use Rattle.policy_types.specs.declared.command.Plan.TheVariants.{Endowment, Term, Whole, Limited}
