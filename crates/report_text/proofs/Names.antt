-- The names that several proofs cite, passed on from one place. Declares nothing.
pub use Rattle.std.proofs.Common.{◌≡◌, length, ◌++◌, ◌≤◌, take, arith, refl, ℕ, IsOk, ap, ap₂, ◌∙◌, vec_capacity, drop, List, [], ◌∷◌, Result, Ok, Err, OnOk, sym, append-nil, append_assoc, inl, inr, ◌*◌}
pub use Rattle.std.specs.List.{flat_map, AllByRecursion, AllZip}
unfoldable pub use Rattle.report_text.specs.Block.{row_text, heading_text, total_text}
pub use Rattle.report_text.specs.Block.{IsSummable, total_of}
pub use Rattle.report_text.specs.Parts.{rows_of_parts, had_text, IsTextOfPart}
