-- The names that several proofs cite, passed on from one place. Declares nothing.
pub use Rattle.std.proofs.Common.{length, take, ◌≡◌, ◌∙◌, arith, rules, ap, sym, ◌++◌, ◌+◌, List, subst, ◌-◌, ◌<◌, ◌≤◌, min, drop, ◌∷◌, [], ℕ, inl, refl, set, get_or, IfOk, ap₂, length-drop, zero, suc, Result, Ok, Err, OnOk, IfSome, Option, Some, None, Bor, Vec, Global, append-nil, inr, map, vec_len, vec_capacity, ◌^◌}
pub use Rattle.std.proofs.lemmas.List.{length-take, take_min, append_assoc, take_more, take_more_set, take-append-drop, take_all}
pub use Rattle.std.specs.List.{AllZip, AllByRecursion, IsAmong}
pub use Rattle.parallel_value.specs.Pieces.{IsAsBefore, AddsBehind, AreValues, MayGive, StandBehind, TakeAll, AreBoth, Compute}
pub use Rattle.parallel_value.specs.inside.Parts.{AreMadeParts, IsOneOf, IsMadePart}
