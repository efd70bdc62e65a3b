-- What follows if the rules accept a command, and where the upgrade is
use Rattle.policy_machine.proofs.Names.{◌≡◌, ℕ, ◌+◌, ◌≤◌, ◌==◌, Bool, true, false, if◌then◌else◌, ◌⊎◌, inl, inr, List, [], ◌∷◌, ◌++◌, length, refl, sym, ap, ◌∙◌, append_assoc, append-nil, ne_eqb, Some, None, Option, Ok, Err, Result, ℤ, arith, cases_lt, Command, Issue, Premium, Alter, Lapse, Reinstate, Claim, Settle, Mature, PaidUp, Upgrade, Policy, Refusal, Unknown, NotUpgraded, Upgraded, id_of, is_upgrade, next, policy_of, upgrade_from, upgrade_of, left_by, judged, refusal_in, judge, IsAccepted, IsAcceptedAfter}

-- an upgrade names no policy
pub next-upgrade : (policy : Option Policy) → next policy Upgrade ≡ Err Unknown
next-upgrade None = refl
next-upgrade (Some p) = refl

pub upgrade_or_other : (command : Command) → (command ≡ Upgrade) ⊎ (is_upgrade command ≡ false)
upgrade_or_other Upgrade = inl refl
upgrade_or_other (Issue id day plan age years amount premium) = inr refl
upgrade_or_other (Premium id day amount) = inr refl
upgrade_or_other (Alter id day amount premium) = inr refl
upgrade_or_other (Lapse id day) = inr refl
upgrade_or_other (Reinstate id day amount) = inr refl
upgrade_or_other (Claim id day) = inr refl
upgrade_or_other (Settle id day amount) = inr refl
upgrade_or_other (Mature id day) = inr refl
upgrade_or_other (PaidUp id day amount) = inr refl

-- so a command that makes a policy is no upgrade
pub next-no_upgrade : (policy : Option Policy) (command : Command) (after : Policy) → next policy command ≡ Ok after → is_upgrade command ≡ false
next-no_upgrade policy command after e = by_kind (upgrade_or_other command)
  where
    by_kind : (command ≡ Upgrade) ⊎ (is_upgrade command ≡ false) → is_upgrade command ≡ false
    by_kind (inl upgraded) = let refused : next policy command ≡ Err Unknown = ap (next policy) upgraded ∙ next-upgrade policy in absurd (cc)
    by_kind (inr other) = other

-- and neither is a command that names a policy
pub named-no_upgrade : (command : Command) → 1 ≤ id_of command → is_upgrade command ≡ false
named-no_upgrade command some = by_kind (upgrade_or_other command)
  where
    by_kind : (command ≡ Upgrade) ⊎ (is_upgrade command ≡ false) → is_upgrade command ≡ false
    by_kind (inl upgraded) = let none : id_of command ≡ 0 = ap id_of upgraded in absurd (omega arith)
    by_kind (inr other) = other

accepted_left : (decision : Result Policy Refusal) → refusal_in (left_by decision) ≡ None → (after : Policy) × (decision ≡ Ok after)
accepted_left (Ok after) e = (after, refl)
accepted_left (Err refusal) e = absurd (cc)

-- how a command is judged: an upgrade by the place of another, a paid-up policy not before the first, else by its policy
pub judged_as : (upgrade : ℕ) (policy : Option Policy) (command : Command)
    → ((command ≡ Upgrade) × (judged upgrade policy command ≡ (if upgrade == 0 then Ok None else Err (Upgraded upgrade))))
    ⊎ ((judged upgrade policy command ≡ Err NotUpgraded) ⊎ (judged upgrade policy command ≡ left_by (next policy command)))
judged_as upgrade policy Upgrade = inl (refl, refl)
judged_as upgrade policy (PaidUp id day amount) = inr (by_test (upgrade == 0))
  where
    by_test : (b : Bool)
        → ((if b then Err NotUpgraded else left_by (next policy (PaidUp id day amount))) ≡ Err NotUpgraded)
        ⊎ ((if b then Err NotUpgraded else left_by (next policy (PaidUp id day amount))) ≡ left_by (next policy (PaidUp id day amount)))
    by_test true = inl refl
    by_test false = inr refl
judged_as upgrade policy (Issue id day plan age years amount premium) = inr (inr refl)
judged_as upgrade policy (Premium id day amount) = inr (inr refl)
judged_as upgrade policy (Alter id day amount premium) = inr (inr refl)
judged_as upgrade policy (Lapse id day) = inr (inr refl)
judged_as upgrade policy (Reinstate id day amount) = inr (inr refl)
judged_as upgrade policy (Claim id day) = inr (inr refl)
judged_as upgrade policy (Settle id day amount) = inr (inr refl)
judged_as upgrade policy (Mature id day) = inr (inr refl)

-- what is accepted is an upgrade, or a policy is what it left
pub judged_policy : (upgrade : ℕ) (policy : Option Policy) (command : Command) → refusal_in (judged upgrade policy command) ≡ None
    → (command ≡ Upgrade) ⊎ ((after : Policy) × (next policy command ≡ Ok after))
judged_policy upgrade policy command e = by_kind (judged_as upgrade policy command)
  where
    by_kind : ((command ≡ Upgrade) × (judged upgrade policy command ≡ (if upgrade == 0 then Ok None else Err (Upgraded upgrade))))
        ⊎ ((judged upgrade policy command ≡ Err NotUpgraded) ⊎ (judged upgrade policy command ≡ left_by (next policy command)))
        → (command ≡ Upgrade) ⊎ ((after : Policy) × (next policy command ≡ Ok after))
    by_kind (inl upgraded) = inl upgraded.0
    by_kind (inr (inl before)) = let refused : refusal_in (judged upgrade policy command) ≡ Some NotUpgraded = ap refusal_in before in absurd (cc)
    by_kind (inr (inr left)) = inr (accepted_left (next policy command) (sym (ap refusal_in left) ∙ e))

refused_left : (decision : Result Policy Refusal) (refusal : Refusal) → refusal_in (left_by decision) ≡ Some refusal → decision ≡ Err refusal
refused_left (Ok after) refusal e = absurd (cc)
refused_left (Err why) refusal e = let same : why ≡ refusal = cc in ap Err same

refused_again : (first : Bool) (upgrade : ℕ) (refusal : Refusal) → refusal_in (if first then Ok None else Err (Upgraded upgrade)) ≡ Some refusal
    → Upgraded upgrade ≡ refusal
refused_again true upgrade refusal e = absurd (cc)
refused_again false upgrade refusal e = cc

-- a refusal is one of the upgrade, or that of the rules
pub judged_refusal : (upgrade : ℕ) (policy : Option Policy) (command : Command) (refusal : Refusal)
    → refusal_in (judged upgrade policy command) ≡ Some refusal
    → (Upgraded upgrade ≡ refusal) ⊎ ((NotUpgraded ≡ refusal) ⊎ (next policy command ≡ Err refusal))
judged_refusal upgrade policy command refusal e = by_kind (judged_as upgrade policy command)
  where
    by_kind : ((command ≡ Upgrade) × (judged upgrade policy command ≡ (if upgrade == 0 then Ok None else Err (Upgraded upgrade))))
        ⊎ ((judged upgrade policy command ≡ Err NotUpgraded) ⊎ (judged upgrade policy command ≡ left_by (next policy command)))
        → (Upgraded upgrade ≡ refusal) ⊎ ((NotUpgraded ≡ refusal) ⊎ (next policy command ≡ Err refusal))
    by_kind (inl upgraded) = inl (refused_again (upgrade == 0) upgrade refusal (sym (ap refusal_in upgraded.1) ∙ e))
    by_kind (inr (inl before)) =
        let refused : refusal_in (judged upgrade policy command) ≡ Some NotUpgraded = ap refusal_in before in inr (inl (cc))
    by_kind (inr (inr left)) = inr (inr (refused_left (next policy command) refusal (sym (ap refusal_in left) ∙ e)))

made_left : (decision : Result Policy Refusal) (after : Policy) → left_by decision ≡ Ok (Some after) → decision ≡ Ok after
made_left (Ok made) after e = let same : made ≡ after = cc in ap Ok same
made_left (Err refusal) after e = absurd (cc)

none_left : (decision : Result Policy Refusal) → left_by decision ≡ Ok None → ⊥
none_left (Ok made) e = cc
none_left (Err refusal) e = cc

once_none : (first : Bool) (upgrade : ℕ) (after : Policy) → (if first then Ok None else Err (Upgraded upgrade)) ≡ Ok (Some after) → ⊥
once_none true upgrade after e = cc
once_none false upgrade after e = cc

-- the policy that a command leaves is made by the rules
pub judged_some : (upgrade : ℕ) (policy : Option Policy) (command : Command) (after : Policy)
    → judged upgrade policy command ≡ Ok (Some after) → next policy command ≡ Ok after
judged_some upgrade policy command after e = by_kind (judged_as upgrade policy command)
  where
    by_kind : ((command ≡ Upgrade) × (judged upgrade policy command ≡ (if upgrade == 0 then Ok None else Err (Upgraded upgrade))))
        ⊎ ((judged upgrade policy command ≡ Err NotUpgraded) ⊎ (judged upgrade policy command ≡ left_by (next policy command)))
        → next policy command ≡ Ok after
    by_kind (inl upgraded) = absurd (once_none (upgrade == 0) upgrade after (sym upgraded.1 ∙ e))
    by_kind (inr (inl before)) = absurd (cc)
    by_kind (inr (inr left)) = made_left (next policy command) after (sym left ∙ e)

-- and if it leaves no policy, it is an upgrade
pub judged_none : (upgrade : ℕ) (policy : Option Policy) (command : Command) → judged upgrade policy command ≡ Ok None → command ≡ Upgrade
judged_none upgrade policy command e = by_kind (judged_as upgrade policy command)
  where
    by_kind : ((command ≡ Upgrade) × (judged upgrade policy command ≡ (if upgrade == 0 then Ok None else Err (Upgraded upgrade))))
        ⊎ ((judged upgrade policy command ≡ Err NotUpgraded) ⊎ (judged upgrade policy command ≡ left_by (next policy command)))
        → command ≡ Upgrade
    by_kind (inl upgraded) = upgraded.0
    by_kind (inr (inl before)) = absurd (cc)
    by_kind (inr (inr left)) = absurd (none_left (next policy command) (sym left ∙ e))

pub accepted_next : (before : List Command) (command : Command) → judge before command ≡ None
    → (command ≡ Upgrade) ⊎ ((after : Policy) × (next (policy_of before (id_of command)) command ≡ Ok after))
accepted_next before command e = judged_policy (upgrade_of before) (policy_of before (id_of command)) command e

-- a command stands among accepted ones
pub accepted_at : (before front rest : List Command) (command : Command) → IsAcceptedAfter before (front ++ command ∷ rest)
    → judge (before ++ front) command ≡ None
accepted_at before [] rest command accepted = ap (λ commands. judge commands command) (append-nil before) ∙ accepted.0
accepted_at before (first ∷ front) rest command accepted =
    ap (λ commands. judge commands command) (sym (append_assoc before (first ∷ []) front))
    ∙ accepted_at (before ++ first ∷ []) front rest command accepted.1

-- other commands leave the place of the upgrade
pub upgrade_from-other : (place : ℕ) (before : List Command) (command : Command) → is_upgrade command ≡ false
    → upgrade_from place (before ++ command ∷ []) ≡ upgrade_from place before
upgrade_from-other place [] command other = ap (λ b. if b then place else 0) other
upgrade_from-other place (first ∷ before) command other =
    by_first (is_upgrade first) (upgrade_from-other (place + 1) before command other)
  where
    by_first : (b : Bool) → upgrade_from (place + 1) (before ++ command ∷ []) ≡ upgrade_from (place + 1) before
        → (if b then place else upgrade_from (place + 1) (before ++ command ∷ [])) ≡ (if b then place else upgrade_from (place + 1) before)
    by_first true onward = refl
    by_first false onward = onward

-- and so is what follows the first upgrade
pub upgrade_from-more : (place : ℕ) (before rest : List Command) → 1 ≤ upgrade_from place before
    → upgrade_from place (before ++ rest) ≡ upgrade_from place before
upgrade_from-more place [] rest some = absurd (omega arith)
upgrade_from-more place (first ∷ before) rest some = by_first (is_upgrade first) some (upgrade_from-more (place + 1) before rest)
  where
    by_first : (b : Bool) → 1 ≤ (if b then place else upgrade_from (place + 1) before)
        → (1 ≤ upgrade_from (place + 1) before → upgrade_from (place + 1) (before ++ rest) ≡ upgrade_from (place + 1) before)
        → (if b then place else upgrade_from (place + 1) (before ++ rest)) ≡ (if b then place else upgrade_from (place + 1) before)
    by_first true some onward = refl
    by_first false some onward = onward some

-- the first upgrade has the place after the commands before it
pub upgrade_from-first : (place : ℕ) (before rest : List Command) (command : Command) → 1 ≤ place → is_upgrade command ≡ true
    → upgrade_from place before ≡ 0 → upgrade_from place (before ++ command ∷ rest) ≡ place + length before
upgrade_from-first place [] rest command some is none =
    let here : upgrade_from place (command ∷ rest) ≡ place = ap (λ b. if b then place else upgrade_from (place + 1) rest) is in
    omega (arith, here)
upgrade_from-first place (first ∷ before) rest command some is none =
    by_first (is_upgrade first) none (upgrade_from-first (place + 1) before rest command (omega arith) is)
  where
    by_first : (b : Bool) → (if b then place else upgrade_from (place + 1) before) ≡ 0
        → (upgrade_from (place + 1) before ≡ 0 → upgrade_from (place + 1) (before ++ command ∷ rest) ≡ (place + 1) + length before)
        → (if b then place else upgrade_from (place + 1) (before ++ command ∷ rest)) ≡ place + length (first ∷ before)
    by_first true none onward = absurd (omega arith)
    by_first false none onward = let e = onward none in omega arith

-- after an upgrade there is one
pub upgrade_from-some : (place : ℕ) (before rest : List Command) → 1 ≤ place → 1 ≤ upgrade_from place (before ++ Upgrade ∷ rest)
upgrade_from-some place [] rest some = some
upgrade_from-some place (first ∷ before) rest some =
    by_first (is_upgrade first) (upgrade_from-some (place + 1) before rest (omega arith))
  where
    by_first : (b : Bool) → 1 ≤ upgrade_from (place + 1) (before ++ Upgrade ∷ rest)
        → 1 ≤ (if b then place else upgrade_from (place + 1) (before ++ Upgrade ∷ rest))
    by_first true onward = some
    by_first false onward = onward

-- what is judged by the place of an upgrade
upgrade_refused : (upgrade : ℕ) (policy : Option Policy) → 1 ≤ upgrade → refusal_in (judged upgrade policy Upgrade) ≡ Some (Upgraded upgrade)
upgrade_refused upgrade policy some =
    let test : (upgrade == 0) ≡ false = ne_eqb upgrade 0 (λ none. absurd (omega arith)) in
    ap (λ b. refusal_in (if b then Ok None else Err (Upgraded upgrade))) test

paid_up_refused : (upgrade : ℕ) (policy : Option Policy) (id amount : ℕ) (day : ℤ) → upgrade ≡ 0
    → refusal_in (judged upgrade policy (PaidUp id day amount)) ≡ Some NotUpgraded
paid_up_refused upgrade policy id amount day none =
    ap (λ n. refusal_in (judged n policy (PaidUp id day amount))) none

pub second_refused : (front rest : List Command)
    → judge (front ++ Upgrade ∷ rest) Upgrade ≡ Some (Upgraded (upgrade_of (front ++ Upgrade ∷ rest)))
second_refused front rest =
    upgrade_refused (upgrade_of (front ++ Upgrade ∷ rest)) (policy_of (front ++ Upgrade ∷ rest) 0) (upgrade_from-some 1 front rest (omega arith))

pub accepted_upgrade : (front rest : List Command) → IsAccepted (front ++ Upgrade ∷ rest) → upgrade_of front ≡ 0
accepted_upgrade front rest accepted = by_place (cases_lt 0 (upgrade_of front))
  where
    by_place : (1 ≤ upgrade_of front) ⊎ (upgrade_of front ≤ 0) → upgrade_of front ≡ 0
    by_place (inl some) =
        let here = accepted_at [] front rest Upgrade accepted in
        let refused = upgrade_refused (upgrade_of front) (policy_of front 0) some in absurd (cc)
    by_place (inr none) = omega arith

pub accepted_paid_up : (front rest : List Command) (id amount : ℕ) (day : ℤ) → IsAccepted (front ++ PaidUp id day amount ∷ rest)
    → 1 ≤ upgrade_of front
accepted_paid_up front rest id amount day accepted = by_place (cases_lt 0 (upgrade_of front))
  where
    by_place : (1 ≤ upgrade_of front) ⊎ (upgrade_of front ≤ 0) → 1 ≤ upgrade_of front
    by_place (inl some) = some
    by_place (inr none) =
        let here = accepted_at [] front rest (PaidUp id day amount) accepted in
        let refused = paid_up_refused (upgrade_of front) (policy_of front id) id amount day (omega arith) in absurd (cc)
