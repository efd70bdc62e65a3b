-- What the calls that are left make of the bytes and the image so far is what all make of those at first.
use Rattle.memory_disk.proofs.Names.{◌≡◌, drop, kept_after}
use Rattle.memory_disk.proofs.images.image_of.Given as goal

abbrev pub invariant-loop-call : goal.invariant-loop-call
invariant-loop-call l =
    kept_after l.replay.bytes.items l.replay.image.items l.keep l.replay.left (drop l.call-index l.calls) ≡ kept_after l.first l.first l.keep l.keep l.calls
