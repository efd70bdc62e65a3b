-- The names that several proofs cite, passed on from one place. Declares nothing.
pub use Rattle.std.proofs.Common.{◌≡◌, arith, ◌∙◌, ap, ℕ, ◌≤◌, length, refl, List, inl, ◌<◌, [], ◌∷◌, ◌++◌, inr, sym, subst, ◌+◌, take, drop, get_or, ⊎_elim, zero, suc, length-append, ◌⊎◌, ◌*◌, Ok, ◌-◌, slice_index, lit<, lit≤, append_assoc, ◌≢◌, Bool, true, false, Result, Err, max, length-drop, add-one, bytes_eq, true≢false, min, IfOk, IfErr, IsTrue, OnOk, MatchResult}
pub use Rattle.std.proofs.lemmas.Bool.{cases_lt, cases_eq, cases_Bool, false≢true}
pub use Rattle.std.proofs.lemmas.List.{take_at, get_or_append_left, get_or_push, length_push, get_or-drop, drop-drop, get_or-take, take-take, drop-take, drop_at, length-take-le, length-take, take_min, ext_get_or, get_or_at}
pub use Rattle.outside_io.specs.Disks.{Torn, Holds, Looks, Syncs}
pub use Rattle.outside_io.specs.declared.disks.Disk.{Ghosts}
pub use Rattle.posting_journal.specs.Creation.{IsUnfinished, IsBadAt, IsForeign, OpensToBodies, IsBegun, IsNearlyMade}
pub use Rattle.posting_journal.specs.Files.{IsJournal, IsStaged, IsMade, IsBeforeOrAfter, IsClosed, HasRecords}
pub use Rattle.posting_journal.specs.Layout.{gate_place, body_place, header}
pub use Rattle.posting_journal.specs.Runs.{LooksOn, IsSafe, Passes, Leaves}
pub use Rattle.posting_journal.specs.inside.Steps.{OpenedTo, PutsOn, TornOf}
pub use Rattle.posting_journal.specs.inside.Unopened.{EndsAt, IsBadFrom, ShowsWhy, AreOpen}
