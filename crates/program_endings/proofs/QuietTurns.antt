-- Turns that post nothing, and turns that are all of one caller
use Rattle.program_endings.proofs.Names.{◌≡◌, ℕ, ◌+◌, ◌==◌, true, false, List, [], ◌∷◌, map, None, refl, ap, sym, ◌∙◌, AllByRecursion, cons_option, enumerate_from, filter, cond-true, eq-eqb, false≢true, Call, Post, Pin, PinAt, Read, Unpin, Trim, Reply, Entry, accepted_by, accepted_of}
use Rattle.policy_machine.specs.Merge.{Placed}
use Rattle.program_endings.proofs.TurnSteps.{posts}

no_command : (call : Call) (reply : Reply) → posts call ≡ false → accepted_by call reply ≡ None
no_command (Post command) reply quiet = absurd (false≢true (sym quiet))
no_command Pin reply quiet = refl
no_command (PinAt p) reply quiet = refl
no_command (Read pin first) reply quiet = refl
no_command (Unpin pin) reply quiet = refl
no_command Trim reply quiet = refl

abbrev pub ArePostless : List Entry → Type 0
ArePostless history = AllByRecursion (λ (entry : Entry). posts entry.call ≡ false) history

pub none_accepted : (history : List Entry) → ArePostless history → accepted_of history ≡ []
none_accepted [] quiet = refl
none_accepted (entry ∷ history) quiet =
    ap (λ first. cons_option first (accepted_of history)) (no_command entry.call entry.reply quiet.0) ∙ none_accepted history quiet.1

-- if all turns are of one caller
pub all_own : (caller n : ℕ) (history : List Entry) → AllByRecursion (λ (entry : Entry). entry.caller ≡ caller) history
    → filter (λ (turn : Placed). turn.1.caller == caller) (enumerate_from n history) ≡ enumerate_from n history
all_own caller n [] own = refl
all_own caller n (entry ∷ history) own =
    let here : (entry.caller == caller) ≡ true = eq-eqb entry.caller caller own.0 in
    cond-true (entry.caller == caller) _ _ here ∙ ap (λ later. (n, entry) ∷ later) (all_own caller (n + 1) history own.1)

pub entries_in : (n : ℕ) (history : List Entry) → map (λ (turn : Placed). turn.1) (enumerate_from n history) ≡ history
entries_in n [] = refl
entries_in n (entry ∷ history) = ap (λ later. entry ∷ later) (entries_in (n + 1) history)

pub same_first : {A : Type 0} (x y : A) (xs ys : List A) → x ∷ xs ≡ y ∷ ys → x ≡ y
same_first x y xs ys same = cc

pub same_rest : {A : Type 0} (x y : A) (xs ys : List A) → x ∷ xs ≡ y ∷ ys → xs ≡ ys
same_rest x y xs ys same = cc

pub postless_entries : (turns : List Placed) → AllByRecursion (λ (turn : Placed). posts turn.1.call ≡ false) turns
    → ArePostless (map (λ (turn : Placed). turn.1) turns)
postless_entries [] quiet = tt
postless_entries (turn ∷ turns) quiet = (quiet.0, postless_entries turns quiet.1)
