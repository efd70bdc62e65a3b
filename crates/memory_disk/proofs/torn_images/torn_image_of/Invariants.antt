-- What the calls that are left make of the bytes and the image so far is what all make of those at first.
use Rattle.memory_disk.proofs.Names.{◌≡◌, drop, torn_after}
use Rattle.memory_disk.proofs.torn_images.torn_image_of.Given as goal

abbrev pub invariant-loop-call : goal.invariant-loop-call
invariant-loop-call l =
    torn_after l.bytes.items l.image.items l.reached (drop l.call-index l.calls) ≡ torn_after l.first l.first l.reached l.calls
