-- What is reported of an empty file.
use Rattle.stating_modes.proofs.Names.{◌≡◌, ℕ, List, [], inr, inl, refl, subst, lit≤, Ghosts, Command, balance_text, Opens, opens_to_one, WroteAll, policy_account, books_of}
use Rattle.std.specs.Fmt.{digits}
use Rattle.stating_modes.specs.Worked.{KnowsNobody, StatesAnEmptyFile}

no_commands : (bytes : List ℕ) (commands : List Command) → bytes ≡ [] → Opens bytes commands → commands ≡ []
no_commands bytes commands empty opens =
    opens_to_one [] commands [] (subst (λ (xs : List ℕ). Opens xs commands) empty opens) (inr (refl, inl (lit≤ tt)))

pub states_nothing : {D : Type 0} (g : Ghosts D) → StatesAnEmptyFile g
unfolding digits balance_text
states_nothing g old new output honest empty h =
    let none = no_commands (g.reads old) h.commands empty (h.disk.opened honest) in
    subst (λ (commands : List Command). WroteAll output (books_of commands)) none h.so.0

pub knows_nobody : {D : Type 0} (g : Ghosts D) → KnowsNobody g
unfolding digits
knows_nobody g old new output honest empty h =
    let none = no_commands (g.reads old) h.commands empty (h.disk.opened honest) in
    subst (λ (commands : List Command). WroteAll output (policy_account 7 commands)) none h.so.0
