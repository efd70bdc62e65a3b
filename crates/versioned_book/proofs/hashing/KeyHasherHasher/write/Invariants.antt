-- The bytes so far were written.
use Rattle.std.proofs.Common.{◌≡◌, ◌+◌, ◌*◌, ◌/◌, ◌^◌, take, fold}
use Rattle.versioned_book.proofs.hashing.KeyHasherHasher.write.Given as goal

abbrev pub invariant-loop-b : goal.invariant-loop-b
invariant-loop-b l = l.self.key ≡ fold (λ key b. key / 256 + b * 2 ^ 24) l.initial.self.key (take l.b-index l.bytes)
