-- The names that several proofs cite, passed on from one place. Declares nothing.
pub use Rattle.std.proofs.Common.{refl, sym, ap, ◌∙◌, ◌≡◌, ℕ, ◌+◌, List, [], ◌∷◌, get_or, Option, Some, arith, ℤ, FitsSigned, to_z-of_z}
unfoldable pub use Rattle.record_codec.specs.Spelling.{spelling_of}
pub use Rattle.record_codec.specs.Spelling.{IsSpelling}
pub use Rattle.record_codec.specs.inside.Reading.{bytes_of}
