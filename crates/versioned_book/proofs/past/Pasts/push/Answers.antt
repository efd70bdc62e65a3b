use Rattle.std.proofs.Common.{[], ◌∷◌, ◌++◌, refl, sym, ap, ◌∙◌, inl}
use Rattle.versioned_book.proofs.PastSteps.{deeper_pushed, deeper_set, places_kept}
use Rattle.versioned_book.proofs.past.Pasts.push.Goals as goal

pub returns-then-is_of-clause-places : goal.returns-then-is_of-clause-places
returns-then-is_of-clause-places g c =
    inl (
      places_kept c.args.self.now.list.items c.args.place c.args.key c.index_mut.result.now _ c.args.version (sym c.is_of.ensures ∙ c.if-is_of.true) c.index_mut.ensures.value refl refl,
      refl,
    )

pub returns-then-is_of-clause-olders : goal.returns-then-is_of-clause-olders
returns-then-is_of-clause-olders g c =
    deeper_set c.args.self.now.list.items c.args.place c.args.key c.index_mut.result.now _ c.args.version (sym c.is_of.ensures ∙ c.if-is_of.true) c.index_mut.ensures.value refl
    c.requires.apart c.push_reserved.ensures.items

pub returns-clause-olders : goal.returns-clause-olders
returns-clause-olders g c =
    deeper_pushed c.args.self.now.list.items _ c.args.key _ c.args.version c.push_reserved-3.ensures.items refl
    (c.push_reserved-2.ensures.items ∙ ap (λ l. l ++ c.args.version ∷ []) c.clear.ensures.items) (sym c.requires.seen ∙ sym c.is_of.ensures ∙ c.if-is_of.false)
