use Rattle.versioned_book.proofs.Names.{◌≡◌, ◌+◌, olders_in, places_in, older_total}
use Rattle.versioned_book.proofs.Trimming.{AreCut}
use Rattle.versioned_book.proofs.past.Pasts.cut.Given as goal

abbrev pub invariant-loop-place : goal.invariant-loop-place
invariant-loop-place g l =
    (places_in l.self ≡ places_in l.initial.self)
    × AreCut l.chains.entries l.floor l.place (olders_in l.initial.self) (olders_in l.self)
    × (older_total (olders_in l.initial.self) ≡ older_total (olders_in l.self) + l.dropped)
