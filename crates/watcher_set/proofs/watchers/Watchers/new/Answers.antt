use Rattle.std.proofs.Common.{sym, ◌∙◌, append-nil}
use Rattle.std.proofs.lemmas.List.{nil_from_length}
use Rattle.std.specs.Vec.Iter.{into_iter_items}
use Rattle.watcher_set.proofs.Telling.{AreTold-fresh}
use Rattle.watcher_set.proofs.watchers.Watchers.new.Goals as goal

pub returns-clause-told : goal.returns-clause-told
returns-clause-told g c before =
    let at = c.loop-auditor in
    let none = c.in-None.ensures.steps in
    let empty = nil_from_length (into_iter_items at.auditor-iterator) (sym at.invariant.2 ∙ none.0) in
    let all = sym (append-nil at.yielded) ∙ rw empty at at.invariant.0
    ∙ c.into_iter-auditor-iterator.ensures.into_iter_gives.0 in
    rw (c.of-handed.ensures, at.invariant.1, all) (AreTold-fresh g.B.Watcher before c.args.auditors.items c.requires.fresh)
