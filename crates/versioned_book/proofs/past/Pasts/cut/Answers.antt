use Rattle.versioned_book.proofs.Names.{◌≡◌, Some, IfSome, [], ◌∷◌, ◌++◌, sym, ap, ◌∙◌, subst, nat_eq, arith, length-map, slice_get_within, option_map, deref_pair, get, newest, olders_in, versions_from}
use Rattle.versioned_book.proofs.PastSteps.{older_in, places-set}
use Rattle.versioned_book.proofs.Trimming.{all_cut, cut_next, cutting, total-cut}
use Rattle.versioned_book.proofs.VersionSteps.{some_same}
use Rattle.versioned_book.proofs.past.Pasts.cut.Goals as goal

pub unwrap-requires : goal.unwrap-requires
unwrap-requires g c =
    let past = c.index_mut-past.result.now in
    let q = cutting c.args.chains.now.entries c.args.self.now.list.items c.loop-place.self.list.items c.loop-place.place past c.requires.told c.loop-place.invariant.0
    (omega (arith, c.loop-place-test.true, c.len-place-end.ensures)) c.index_mut-past.ensures.value in
    c.get_index.ensures.found.1 (slice_get_within c.args.chains.now.entries past.index (past.key, q.chain) q.entry)

pub overflow_cast-dropped : goal.overflow_cast-dropped
overflow_cast-dropped g c =
    let past = c.index_mut-past.result.now in
    let q = cutting c.args.chains.now.entries c.args.self.now.list.items c.loop-place.self.list.items c.loop-place.place past c.requires.told c.loop-place.invariant.0
    (omega (arith, c.loop-place-test.true, c.len-place-end.ensures)) c.index_mut-past.ensures.value in
    omega (arith, q.few, c.cut.ensures.count, c.loop-place.invariant.2, c.requires.few)

pub overflow_add-dropped : goal.overflow_add-dropped
overflow_add-dropped g c =
    let past = c.index_mut-past.result.now in
    let q = cutting c.args.chains.now.entries c.args.self.now.list.items c.loop-place.self.list.items c.loop-place.place past c.requires.told c.loop-place.invariant.0
    (omega (arith, c.loop-place-test.true, c.len-place-end.ensures)) c.index_mut-past.ensures.value in
    omega (arith, q.few, c.cut.ensures.count, c.loop-place.invariant.2, c.requires.few)

pub loop-place-preserved : goal.loop-place-preserved
loop-place-preserved g c =
    let past = c.index_mut-past.result.now in
    let es = c.args.chains.now.entries in
    let now = c.loop-place.self.list.items in
    let q = cutting es c.args.self.now.list.items now c.loop-place.place past c.requires.told c.loop-place.invariant.0
    (omega (arith, c.loop-place-test.true, c.len-place-end.ensures)) c.index_mut-past.ensures.value in
    let pair = c.unwrap.result in
    let cut = c.cut.new.self in
    let here = sym c.get_index.ensures.entry ∙ ap (option_map deref_pair) c.unwrap.ensures in
    let same = some_same (past.key, q.chain) (pair.0.now, pair.1.now) (sym q.entry ∙ here) in
    let found = subst (λ o. IfSome o (λ p. get nat_eq c.args.chains.now p.0.now ≡ Some p.1.now)) c.unwrap.ensures c.get_index.ensures.value in (
      places-set now c.loop-place.place past cut q.at c.cut.ensures.place.0 c.cut.ensures.place.1 ∙ c.loop-place.invariant.0,
      cut_next es c.args.floor c.loop-place.place (olders_in c.args.self.now) now past cut c.loop-place.invariant.1 q.at c.cut.ensures.place.0
          (λ chain is.
          subst (λ x. versions_from c.args.floor (past.older.items ++ newest x ∷ []) ≡ cut.older.items ++ newest x ∷ [])
          (some_same pair.1.now chain (sym found ∙ ap (get nat_eq c.args.chains.now) (sym (ap (λ x. x.0) same)) ∙ is)) c.cut.ensures.kept),
      omega (arith, c.loop-place.invariant.2, total-cut now c.loop-place.place past cut q.at, c.cut.ensures.count),
    )

pub returns-clause-olders : goal.returns-clause-olders
returns-clause-olders g c key chain found =
    all_cut c.args.chains.now.entries c.args.floor c.loop-place.place (olders_in c.args.self.now) _
    (omega (arith, c.loop-place-test.false, c.len-place-end.ensures, length-map c.args.self.now.list.items older_in)) c.loop-place.invariant.1 key chain found
