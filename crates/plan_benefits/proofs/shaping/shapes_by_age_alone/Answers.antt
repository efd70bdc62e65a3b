use Rattle.plan_benefits.proofs.ByAgeAlone.{uncapped}
use Rattle.plan_benefits.proofs.shaping.shapes_by_age_alone.Goals as goal

pub returns : goal.returns
returns c = λ plan age years table are. uncapped table _ are.some
