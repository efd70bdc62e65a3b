-- The names from elsewhere that several modules cite, passed on from one place. Declares nothing.
unfoldable pub use Rattle.std.specs.List.{IsDistinct}
pub use Rattle.std.specs.List.{AllByRecursion, Contains, filter}
pub use Rattle.atomic_table.specs.Table.{State, Me, Step}
pub use Rattle.policy_types.specs.declared.entry.Entry.{Entry}
