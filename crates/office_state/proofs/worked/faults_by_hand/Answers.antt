use Rattle.office_state.proofs.Names.{[], ◌∷◌, refl, sym, none-some, Refused, NothingDue, hand_premium, premium_turn}
use Rattle.office_state.proofs.WorkedOffices.{not_then}
use Rattle.office_state.proofs.worked.faults_by_hand.Goals as goal

pub returns-clause-then : goal.returns-clause-then
returns-clause-then c = (
  record { before = []; caller = 1; count = 4; after = premium_turn (Refused NothingDue) ∷ []; turns = refl; then = refl },
  (λ h. not_then h.before h.after h.caller h.count hand_premium h.turns h.then),
)

pub returns-clause-counted : goal.returns-clause-counted
returns-clause-counted c = (refl, refl, ((refl, λ position e. cc), ((refl, λ position e. cc), tt)), (λ h. h.1.0.1 2 refl), (λ h. none-some 4 (sym h.0.0)))
