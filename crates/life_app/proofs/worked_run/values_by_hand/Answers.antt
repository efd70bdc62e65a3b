use Rattle.life_app.proofs.WorkedRun.Enclosed.{enclosed_lanes, enclosed_value, misprints, printed_rows}
use Rattle.life_app.proofs.worked_run.values_by_hand.Goals as goal

pub returns-clause-printed : goal.returns-clause-printed
returns-clause-printed c = printed_rows

pub returns-clause-enclosed : goal.returns-clause-enclosed
returns-clause-enclosed c = enclosed_lanes

pub returns-clause-misprints : goal.returns-clause-misprints
returns-clause-misprints c = misprints

pub returns-clause-value : goal.returns-clause-value
returns-clause-value c = enclosed_value
