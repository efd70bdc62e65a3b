-- What one more turn does to a history
use Rattle.policy_machine.proofs.Names.{◌≡◌, List, [], ◌∷◌, ◌++◌, append_assoc, append-nil, filter_map-append, Opening, IsDue, IsLegalAfter, accepted_by, accepted_of}
use Rattle.policy_types.specs.declared.entry.Entry.{Entry}

-- a turn with the reply due then
pub IsLegalAfter-push : (opening : Opening) (before rest : List Entry) (entry : Entry) → IsLegalAfter opening before rest
    → IsDue opening (before ++ rest) entry.caller entry.call entry.reply → IsLegalAfter opening before (rest ++ entry ∷ [])
IsLegalAfter-push opening before [] entry so_far here = (rw append-nil at here, tt)
IsLegalAfter-push opening before (first ∷ rest) entry so_far here =
    (so_far.0, IsLegalAfter-push opening (before ++ first ∷ []) rest entry so_far.1 (rw append_assoc here))

pub accepted_of-push : (history : List Entry) (entry : Entry)
    → accepted_of (history ++ entry ∷ []) ≡ accepted_of history ++ accepted_of (entry ∷ [])
accepted_of-push history entry = filter_map-append (λ e. accepted_by e.call e.reply) history (entry ∷ [])
