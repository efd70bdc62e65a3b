-- One policy after the other.
use Rattle.checkpoint_store.proofs.Names.{rules, ◌≡◌, ◌+◌, true, false, subst, arith, AreBegun, AreUpTo, BegunNext, UpToNext}
use Rattle.checkpoint_store.proofs.numbered.NumberedBooks.add_all.Goals as goal

pub returns-then-not-branch-clause-next : goal.returns-then-not-branch-clause-next
returns-then-not-branch-clause-next c = λ file f first room are begun up.
    let none : c.in_ok-add_at.field-0 ≡ false = search (rules, c.if-not-branch.true) in
    subst (λ b. UpToNext file f (first + (c.loop-index.index + 1)) c.add_at.new.self b) none
    (c.in_ok-add_at.ensures.next file f first c.args.many c.loop-index-test.true room are (c.loop-index.invariant.begun f first begun)
    (c.loop-index.invariant.next file f first room are begun up))

pub loop-index-preserved : goal.loop-index-preserved
loop-index-preserved c =
    let added : c.in_ok-add_at.field-0 ≡ true = search (rules, c.if-not-branch.false) in
    record {
      begun = λ f first begun.
          subst (λ b. BegunNext f (first + (c.loop-index.index + 1)) c.add_at.new.self b) added
          (c.in_ok-add_at.ensures.begun f first (c.loop-index.invariant.begun f first begun));
      next = λ file f first room are begun up.
          subst (λ b. UpToNext file f (first + (c.loop-index.index + 1)) c.add_at.new.self b) added
          (c.in_ok-add_at.ensures.next file f first c.args.many c.loop-index-test.true room are (c.loop-index.invariant.begun f first begun)
          (c.loop-index.invariant.next file f first room are begun up));
    }

pub returns-clause-begun : goal.returns-clause-begun
returns-clause-begun c = λ f first begun.
    let end : c.loop-index.index ≡ c.args.many = omega (arith, c.loop-index-test.false, c.loop-index.auto.index-end) in
    subst (λ n. AreBegun f (first + n) c.loop-index.self) end (c.loop-index.invariant.begun f first begun)

pub returns-clause-next : goal.returns-clause-next
returns-clause-next c = λ file f first room are begun up.
    let end : c.loop-index.index ≡ c.args.many = omega (arith, c.loop-index-test.false, c.loop-index.auto.index-end) in
    subst (λ n. AreUpTo file f (first + n) c.loop-index.self) end (c.loop-index.invariant.next file f first room are begun up)
