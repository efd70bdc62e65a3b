use Rattle.versioned_book.proofs.Names.{◌≡◌, ◌≤◌, [], ◌∷◌, ◌++◌, ap, refl, sym, ◌∙◌, subst, length, arith, AreWhereTold, newest, older_of, olders_in, older_total, own, versions_from}
use Rattle.versioned_book.proofs.BookSteps.{carried}
use Rattle.versioned_book.proofs.PastSteps.{none_left, none_told}
use Rattle.versioned_book.proofs.VersionSteps.{trim_again}
use Rattle.versioned_book.proofs.book.VersionedBook.trim.Goals as goal
use Rattle.versioned_book.proofs.book.VersionedBook.trim.Goals.{then-floor-self, else-floor-self}

pub returns-then-self-len-clause-book : goal.returns-then-self-len-clause-book
returns-then-self-len-clause-book g c sets h =
    let from : c.args.self.now.floor ≤ c.if-floor-self.new_floor =
    elim c.if-floor-self.branch [ then-floor-self w ↦ omega (arith, w.new_floor-is, c.requires.rising) | else-floor-self w ↦ omega (arith, w.new_floor-is, h.floor) ] in
    let later : c.if-floor-self.new_floor ≤ c.args.self.now.last =
    elim c.if-floor-self.branch [ then-floor-self w ↦ omega (arith, w.new_floor-is, w.if-floor-self.true) | else-floor-self w ↦ omega (arith, w.new_floor-is) ] in
    carried c.args.self.now _ sets refl refl refl (subst (λ l. AreWhereTold c.args.self.now.chains.entries l) (sym c.cut.ensures.places) h.told)
    (omega (arith, ap length c.cut.ensures.places)) later (omega (arith, h.count, c.cut.ensures.count)) (omega arith)
    (λ key chain e. sym (c.cut.ensures.olders key chain e) ∙ ap (versions_from c.if-floor-self.new_floor) (h.kept key chain e)
    ∙ trim_again c.if-floor-self.new_floor c.args.self.now.floor (own key sets) from)
    h

pub returns-clause-book : goal.returns-clause-book
returns-clause-book g c sets h =
    let from : c.args.self.now.floor ≤ c.if-floor-self.new_floor =
    elim c.if-floor-self.branch [ then-floor-self w ↦ omega (arith, w.new_floor-is, c.requires.rising) | else-floor-self w ↦ omega (arith, w.new_floor-is, h.floor) ] in
    let later : c.if-floor-self.new_floor ≤ c.args.self.now.last =
    elim c.if-floor-self.branch [ then-floor-self w ↦ omega (arith, w.new_floor-is, w.if-floor-self.true) | else-floor-self w ↦ omega (arith, w.new_floor-is) ] in
    let none : older_total (olders_in c.cut.new.self) ≡ 0 = omega (arith, h.count, c.cut.ensures.count, c.if-self-len.false, c.len.ensures.len) in
    carried c.args.self.now _ sets refl refl refl (none_told c.args.self.now.chains.entries _ c.clear.ensures.places)
    (omega (arith, ap length c.clear.ensures.places)) later (omega (arith, c.if-self-len.false, c.len.ensures.len, ap older_total c.clear.ensures.olders)) (omega arith)
    (λ key chain e. ap (λ ps. older_of key ps ++ newest chain ∷ []) c.clear.ensures.olders
    ∙ sym (ap (λ l. l ++ newest chain ∷ []) (none_left (olders_in c.cut.new.self) key none))
    ∙ sym (c.cut.ensures.olders key chain e) ∙ ap (versions_from c.if-floor-self.new_floor) (h.kept key chain e)
    ∙ trim_again c.if-floor-self.new_floor c.args.self.now.floor (own key sets) from)
    h
