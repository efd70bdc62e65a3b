-- The names that several proofs cite, passed on from one place. Declares nothing.
pub use Rattle.std.proofs.Common.{refl, Some, ◌≡◌, ◌⊎◌, ℕ, List, [], inl, inr, ◌∷◌, ◌++◌, ap, map, Option, codes, ◌∙◌, length, ◌≤◌, lit≤}
pub use Rattle.life_app.specs.Needs.{With, filing_between}
pub use Rattle.life_cli.specs.Shipped.{shipped_auditors}
pub use Rattle.program_endings.specs.declared.ending.Ending.TheVariants.{NoMemory, Done, DiskFault}
