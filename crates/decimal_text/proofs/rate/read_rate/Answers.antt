use Rattle.decimal_text.specs.inside.Parts.{decimal_of}
use Rattle.decimal_text.proofs.Answering.{found, only, no_number, above_one, too_fine}
use Rattle.decimal_text.proofs.rate.read_rate.Goals as goal

pub returns-in_default-clause-only : goal.returns-in_default-clause-only
returns-in_default-clause-only c = λ rate h. absurd (c.in_default.ensures.none h.0 h.1)

pub returns-in_default-clause-above_one : goal.returns-in_default-clause-above_one
returns-in_default-clause-above_one c = (λ e. absurd (cc), λ h. absurd (c.in_default.ensures.none h.0 h.1))

pub returns-in_default-clause-too_fine : goal.returns-in_default-clause-too_fine
returns-in_default-clause-too_fine c = (λ e. absurd (cc), λ h. absurd (c.in_default.ensures.none h.0 h.1))

pub returns-clause-found : goal.returns-clause-found
returns-clause-found c = found c.args.text.now (decimal_of c.in-Some.parts) c.rate_of.result c.in-Some.ensures.found c.rate_of.ensures

pub returns-clause-only : goal.returns-clause-only
returns-clause-only c = only c.args.text.now (decimal_of c.in-Some.parts) c.rate_of.result c.in-Some.ensures.found c.rate_of.ensures

pub returns-clause-no_number : goal.returns-clause-no_number
returns-clause-no_number c = no_number c.args.text.now (decimal_of c.in-Some.parts) c.rate_of.result c.in-Some.ensures.found c.rate_of.ensures

pub returns-clause-above_one : goal.returns-clause-above_one
returns-clause-above_one c = above_one c.args.text.now (decimal_of c.in-Some.parts) c.rate_of.result c.in-Some.ensures.found c.rate_of.ensures

pub returns-clause-too_fine : goal.returns-clause-too_fine
returns-clause-too_fine c = too_fine c.args.text.now (decimal_of c.in-Some.parts) c.rate_of.result c.in-Some.ensures.found c.rate_of.ensures
