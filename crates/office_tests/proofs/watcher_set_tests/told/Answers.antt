use Rattle.std.proofs.Common.{◌∷◌, [], ◌++◌, ◌∙◌, length-append, arith}
use Rattle.office_tests.proofs.watcher_set_tests.told.Goals as goal

pub note-requires-clause-next : goal.note-requires-clause-next
note-requires-clause-next g c =
    let so_far = c.loop-place.invariant in
    (0, so_far.0, c.ready.ensures.told 0 so_far.0 so_far.1, omega (arith, so_far.2), omega (arith, so_far.2))

pub loop-place-preserved : goal.loop-place-preserved
loop-place-preserved g c =
    let so_far = c.loop-place.invariant in (
      so_far.0 ++ _ ∷ [],
      c.note.ensures.told 0 so_far.0 (c.ready.ensures.told 0 so_far.0 so_far.1) (omega (arith, so_far.2)),
      length-append so_far.0 _ ∙ omega (arith, so_far.2),
    )
