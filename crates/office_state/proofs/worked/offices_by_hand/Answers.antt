use Rattle.office_state.proofs.Names.{[], ◌∷◌, ◌++◌, take, refl, inl, inr, hand_premium, premium_body}
use Rattle.office_state.proofs.WorkedOffices.{just_the_issue, both, no_turns}
use Rattle.office_state.proofs.worked.offices_by_hand.Goals as goal

pub returns-clause-two : goal.returns-clause-two
returns-clause-two c = (both, (λ h. h.records.end.1 refl))

pub returns-clause-crashes : goal.returns-clause-crashes
returns-clause-crashes c = (just_the_issue [], just_the_issue (take 30 premium_body), just_the_issue (premium_body ++ 0 ∷ []), (hand_premium ∷ [], inl both))

pub returns-clause-now : goal.returns-clause-now
returns-clause-now c = (
  inl (just_the_issue []),
  inr (hand_premium, record { before = []; caller = 1; count = 4; after = []; turns = refl; then = refl }, both),
  (λ h. elim h [
    | inl journal ↦ journal.records.end.1 refl
    | inr more ↦ no_turns more.0 more.1
  ]),
  inl both,
)

pub returns-clause-once : goal.returns-clause-once
returns-clause-once c = (
  ([], hand_premium ∷ [], refl, inl (inl (just_the_issue []))),
  (hand_premium ∷ [], [], refl, inl (inl both)),
  ([], [], refl, inr (hand_premium, record { before = []; caller = 1; count = 4; after = []; turns = refl; then = refl }, inl both)),
)
