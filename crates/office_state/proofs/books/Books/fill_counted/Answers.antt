-- One more policy is copied, until all are.
use Rattle.office_state.proofs.Names.{◌≡◌, List, ◌+◌, ◌-◌, ◌∷◌, [], ◌++◌, length, take, drop, min, ap, ◌∙◌, arith, Policy, book, commands_in}
use Rattle.office_state.proofs.FillingSteps.{copied_all, copy_more}
use Rattle.office_state.proofs.books.Books.fill_counted.Goals as goal

pub policy_counted-policy-requires-clause-within : goal.policy_counted-policy-requires-clause-within
policy_counted-policy-requires-clause-within g c = omega (arith, c.loop-index-test.true, c.min-end.ensures, c.policies.ensures)

pub loop-index-preserved : goal.loop-index-preserved
loop-index-preserved g c =
    let so_far = c.loop-index.invariant in
    let policies = book (take c.args.p (commands_in c.args.self.now)) in
    let policy = c.policy_counted-policy.result in
    let before : c.loop-index.window.items ++ policy ∷ [] ≡ take (c.loop-index.index - c.args.first) (drop c.args.first policies) ++ policy ∷ [] =
    ap (λ these. these ++ policy ∷ []) so_far.copied in
    let more : c.loop-index.window.items ++ policy ∷ [] ≡ take (c.loop-index.index + 1 - c.args.first) (drop c.args.first policies) =
    ◌∙◌ {A = List Policy} before (copy_more policies c.args.first c.loop-index.index policy so_far.from c.policy_counted-policy.ensures.policy) in
    record {
      copied = ◌∙◌ {A = List Policy} c.push_reserved.ensures.items more;
      from = omega (arith, so_far.from);
      within = omega (arith, c.loop-index-test.true, so_far.from);
      room = c.push_reserved.ensures.capacity ∙ so_far.room;
      looks = omega (arith, so_far.looks, so_far.from, c.policy_counted-policy.ensures.looks);
    }

pub returns-clause-policies : goal.returns-clause-policies
returns-clause-policies g c =
    let so_far = c.loop-index.invariant in
    let policies = book (take c.args.p (commands_in c.args.self.now)) in
    let all : c.loop-index.index - c.args.first ≡ min (length policies) (c.args.first + 256) - c.args.first =
    omega (arith, so_far.within, so_far.from, c.loop-index-test.false, c.min-end.ensures, c.policies.ensures, c.saturating_add.ensures) in
    so_far.copied ∙ copied_all policies c.args.first (c.loop-index.index - c.args.first) all
