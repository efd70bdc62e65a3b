use Rattle.std.proofs.Common.{◌≡◌, refl, arith}
use Rattle.valuing_modes.proofs.worked.limits_of_files.Goals as goal

pub returns-clause-bases : goal.returns-clause-bases
returns-clause-bases c = ((λ bytes long. (omega (arith, long), refl)), (λ bytes long h. omega (arith, long, h.0)))

pub returns-clause-tables : goal.returns-clause-tables
returns-clause-tables c = (
  (λ bytes long. (omega (arith, long), refl)),
  (λ bytes long h. omega (arith, long, h.0)),
  (λ bytes h. let no : 0 ≡ 7 = h.1 in omega arith),
)

pub returns-clause-rows : goal.returns-clause-rows
returns-clause-rows c bytes h = let no : 1000 ≡ 1001 = h.1 in omega arith
