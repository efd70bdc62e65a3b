-- The names that several proofs cite, passed on from one place. Declares nothing.
pub use Rattle.std.proofs.Common.{length, arith, ◌≡◌, sym, ap, ◌∙◌, refl, subst, map, ℕ, suc, ◌<◌, List, [], ◌∷◌, ◌++◌, Bool, true, false, take, add-one, slice_set, ◌+◌, length-append, take_all}
pub use Rattle.watcher_set.specs.Told.{HasSpareRoom, auditor_of, HasHeard, Listens, HasReported, AreTold}
pub use Rattle.watcher_set.specs.inside.Calls.{Hears, report_at, MayBeTold, Stays}
