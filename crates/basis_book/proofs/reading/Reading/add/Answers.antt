use Rattle.basis_book.proofs.Names.{◌≡◌, ◌++◌, ◌∷◌, [], true, false, is_some, sym, subst, ◌∙◌, arith, refl, length_push, IsRowsFault}
use Rattle.basis_book.proofs.Additions.{IsFault-more, none_of}
use Rattle.basis_book.proofs.reading.Reading.add.Goals as goal

pub returns-then-is_some : goal.returns-then-is_some
returns-then-is_some c = λ rows row three h.
    let more = length_push rows row in
    let some : is_some c.args.self.now.fault ≡ true = sym c.is_some.ensures ∙ c.if-is_some.true in
    record {
      count = omega (arith, h.count);
      right = λ few none. absurd (let no : is_some c.args.self.now.fault ≡ false = rw none refl in cc);
      wrong = λ fault few e. IsFault-more rows row fault few (h.wrong fault (omega arith) e);
    }

pub returns-in-Err : goal.returns-in-Err
returns-in-Err c = λ rows row three h.
    let more = length_push rows row in
    let none = none_of c.args.self.now.fault (sym c.is_some.ensures ∙ c.if-is_some.false) in
    record {
      count = omega (arith, h.count);
      right = λ few never. absurd (cc);
      wrong = λ fault few e.
          let found = c.in-Err.ensures rows row three (h.right (omega arith) none) (omega (arith, h.count)) c.if-self-2.false in
          let same : c.in-Err.fault ≡ fault = cc in
          subst (λ f. IsRowsFault (rows ++ row ∷ []) f) same found;
    }
