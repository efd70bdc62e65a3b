use Rattle.std.proofs.Common.{◌≡◌, ◌∷◌, Some, None, sym, ◌∙◌}
use Rattle.outside_io.specs.Shelves.{Found}
use Rattle.outside_io.proofs.LawLemmas.{agrees_before}
use Rattle.outside_io.proofs.laws.a_shelf_has_one_answer_to_a_name.Goals as goal

pub returns-clause-bytes : goal.returns-clause-bytes
returns-clause-bytes c = λ files name one other between earlier agrees.
    let before = agrees_before between (record { name = name; told = Found other } ∷ earlier) files (agrees.0) in
    let same : Some one ≡ Some other = sym (agrees.1) ∙ before.1 in
    cc

pub returns-clause-absent : goal.returns-clause-absent
returns-clause-absent c = λ files name bytes between earlier agrees.
    let before = agrees_before between (record { name = name; told = Found bytes } ∷ earlier) files (agrees.0) in
    let same : None ≡ Some bytes = sym (agrees.1) ∙ before.1 in
    absurd (cc)
