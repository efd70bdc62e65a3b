use Rattle.std.proofs.Common.{◌≡◌, ℕ, zero, suc, ◌<◌, List, [], ◌∷◌, length, get_or, take, subst, sym, ◌∙◌, add-one, take_all, arith}
use Rattle.std.proofs.lemmas.List.{nil_from_length}
use Rattle.std.specs.List.{AllByRecursion}
use Rattle.office_tests.proofs.watcher_set_tests.are_fresh.Goals as goal

one_more : {X : Type 0} (P : X → Type 0) (i : ℕ) (xs : List X) (d : X) → AllByRecursion P (take i xs) → i < length xs
    → P (get_or xs i d) → AllByRecursion P (take (suc i) xs)
one_more P i [] d all some next = absurd (omega arith)
one_more P zero (x ∷ xs) d all some next = (next, tt)
one_more P (suc i) (x ∷ xs) d all some next = (all.0, one_more P i xs d all.1 (omega arith) next)

pub loop-watcher-preserved : goal.loop-watcher-preserved
loop-watcher-preserved g c =
    let next = subst (λ b. (goal.Watcher-dyn g (b.vtable, b.value)).noted b.value ≡ []) c.watcher-item.is
    (nil_from_length _ (sym c.seen_by.ensures ∙ c.if-seen_by-ne0.false)) in
    rw (add-one c.loop-watcher.watcher-index)
    (one_more _ c.loop-watcher.watcher-index c.args.boxes.now c.watcher-item.result c.loop-watcher.invariant
    (omega (arith, c.loop-watcher-test.true)) next)

pub returns : goal.returns
returns g c _ =
    rw (take_all c.loop-watcher.watcher-index c.args.boxes.now (omega (arith, c.loop-watcher-test.false)))
    at c.loop-watcher.invariant
