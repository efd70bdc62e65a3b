use Rattle.xtbml_subset.proofs.Names.{sym, subst, IsRate}
use Rattle.xtbml_subset.proofs.row.rate_in.Goals as goal

pub returns-in-Err : goal.returns-in-Err
returns-in-Err c =
    rw c.in-Some.is (λ rate h. absurd (let is = subst (λ text. IsRate text rate) (sym c.trim.ensures.kept) h in let e = c.in-Err.ensures.only rate is in cc))
