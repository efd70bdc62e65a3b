use Rattle.versioned_book.proofs.Names.{◌≡◌, Some, sym, ap, ◌∙◌, subst, length, IsSome, IfSome, nat_eq, arith, length_push, option_map, deref_pair, get, newest, older_of, olders_in, own, IsRising, versions_from, value_at}
use Rattle.versioned_book.proofs.Looking.{chain_at, has_value, within_keys}
use Rattle.versioned_book.proofs.VersionSteps.{some_same, value_at-within}
use Rattle.versioned_book.proofs.book.VersionedBook.at.Goals as goal

pub unwrap-requires : goal.unwrap-requires
unwrap-requires g c =
    let s = c.requires.stands in
    c.get_index.ensures.found.1 (within_keys c.args.self.now s.0 c.args.p c.args.index s.1 s.2)

pub returns-then-chain-p-clause-value : goal.returns-then-chain-p-clause-value
returns-then-chain-p-clause-value g c sets key h place =
    let pair = c.unwrap.result in
    let entry = sym c.get_index.ensures.entry ∙ ap (option_map deref_pair) c.unwrap.ensures in
    let found = subst (λ o. IfSome o (λ p. get nat_eq c.args.self.now.chains p.0.now ≡ Some p.1.now)) c.unwrap.ensures c.get_index.ensures.value in
    let there = chain_at c.args.self.now sets c.args.index pair.0.now pair.1.now h entry found in
    ap (λ k. value_at c.args.p (own k sets)) (some_same key pair.0.now (sym place ∙ there.place)) ∙ sym (there.value c.args.p c.requires.floor)
    ∙ value_at-within c.args.p (older_of pair.0.now (olders_in c.args.self.now.pasts)) pair.1.now.position pair.1.now.value c.if-chain-p.true

pub returns-then-chain-p-clause-looks : goal.returns-then-chain-p-clause-looks
returns-then-chain-p-clause-looks g c sets key h place = (0, omega arith, omega arith)

pub value_at-requires : goal.value_at-requires
value_at-requires g c =
    let s = c.requires.stands in
    let pair = c.unwrap.result in
    let entry = sym c.get_index.ensures.entry ∙ ap (option_map deref_pair) c.unwrap.ensures in
    let found = subst (λ o. IfSome o (λ p. get nat_eq c.args.self.now.chains p.0.now ≡ Some p.1.now)) c.unwrap.ensures c.get_index.ensures.value in
    let there = chain_at c.args.self.now s.0 c.args.index pair.0.now pair.1.now s.1 entry found in
    subst (IsRising 0) (sym there.older) there.rising

pub unwrap-requires-2 : goal.unwrap-requires-2
unwrap-requires-2 g c =
    let s = c.requires.stands in
    let pair = c.unwrap.result in
    let entry = sym c.get_index.ensures.entry ∙ ap (option_map deref_pair) c.unwrap.ensures in
    let found = subst (λ o. IfSome o (λ p. get nat_eq c.args.self.now.chains p.0.now ≡ Some p.1.now)) c.unwrap.ensures c.get_index.ensures.value in
    let there = chain_at c.args.self.now s.0 c.args.index pair.0.now pair.1.now s.1 entry found in
    subst IsSome (sym (c.value_at.ensures.value ∙ there.before c.args.p c.requires.floor c.if-chain-p.false))
    (has_value c.args.self.now s.0 c.args.p c.args.index pair.0.now s.1 there.place s.2)

pub returns-clause-value : goal.returns-clause-value
returns-clause-value g c sets key h place =
    let pair = c.unwrap.result in
    let entry = sym c.get_index.ensures.entry ∙ ap (option_map deref_pair) c.unwrap.ensures in
    let found = subst (λ o. IfSome o (λ p. get nat_eq c.args.self.now.chains p.0.now ≡ Some p.1.now)) c.unwrap.ensures c.get_index.ensures.value in
    let there = chain_at c.args.self.now sets c.args.index pair.0.now pair.1.now h entry found in
    ap (λ k. value_at c.args.p (own k sets)) (some_same key pair.0.now (sym place ∙ there.place))
    ∙ sym (c.value_at.ensures.value ∙ there.before c.args.p c.requires.floor c.if-chain-p.false) ∙ c.unwrap-2.ensures

pub returns-clause-looks : goal.returns-clause-looks
returns-clause-looks g c sets key h place =
    let pair = c.unwrap.result in
    let entry = sym c.get_index.ensures.entry ∙ ap (option_map deref_pair) c.unwrap.ensures in
    let found = subst (λ o. IfSome o (λ p. get nat_eq c.args.self.now.chains p.0.now ≡ Some p.1.now)) c.unwrap.ensures c.get_index.ensures.value in
    let there = chain_at c.args.self.now sets c.args.index pair.0.now pair.1.now h entry found in
    let same = some_same key pair.0.now (sym place ∙ there.place) in
    let looks = c.value_at.ensures.looks in (
      looks.0,
      looks.1,
      omega (
        arith,
        looks.2,
        ap length there.older,
        length_push (older_of pair.0.now (olders_in c.args.self.now.pasts)) (newest pair.1.now),
        ap length there.kept,
        ap (λ k. length (versions_from c.args.self.now.floor (own k sets))) same,
      ),
    )
