-- One more command, and the settings
use Rattle.office_state.proofs.Names.{◌≡◌, ℕ, ◌+◌, ◌-◌, ◌<◌, ◌≤◌, Bool, true, false, cond, nat_lt, List, [], ◌∷◌, ◌++◌, length, Some, None, Option, Ok, Err, Result, ◌⊎◌, inl, inr, refl, sym, ap, ◌∙◌, subst, append_assoc, append-nil, arith, filter-append, Command, Upgrade, Policy, Refusal, Unknown, id_of, is_upgrade, next, policy_of, judge, IsAccepted, IsAcceptedAfter, accepted_next, next-no_upgrade, next-upgrade, IsRisingTo, Setting, positions, settings_after, positions_rise, rising-longer, setting_by, setting_of, sets_after, sets_of}
use Rattle.std.specs.List.{cons_option, filter}
use Rattle.std.proofs.lemmas.List.{length-append, length_push}
use Rattle.office_state.specs.versions.Steps.{AcceptedSetLaw, RefusedSetLaw, RisingLaw, SetCountLaw, SetsAfterLaw, UpgradeSetLaw}

cons_option-append : {X : Type 0} (o : Option X) (xs ys : List X) → cons_option o (xs ++ ys) ≡ cons_option o xs ++ ys
cons_option-append None xs ys = refl
cons_option-append (Some x) xs ys = refl

-- a command at the end, and its setting
sets_after-push : (before rest : List Command) (command : Command)
    → sets_after before (rest ++ command ∷ []) ≡ sets_after before rest ++ cons_option (setting_of (before ++ rest) command) []
sets_after-push before [] command = ap (λ commands. cons_option (setting_of commands command) []) (sym (append-nil before))
sets_after-push before (first ∷ rest) command =
    ap (cons_option (setting_of before first)) (sets_after-push (before ++ first ∷ []) rest command)
    ∙ cons_option-append (setting_of before first) (sets_after (before ++ first ∷ []) rest) (cons_option (setting_of (before ++ first ∷ [] ++ rest) command) [])
    ∙ ap (λ commands. sets_after before (first ∷ rest) ++ cons_option (setting_of commands command) []) (append_assoc before (first ∷ []) rest)

-- the setting of a command that the rules accept
abbrev pub setting_to : List Command → Command → Policy → Setting Policy
setting_to commands command policy = record { key = id_of command; position = length commands + 1; value = policy }

pub sets_of-accepted : AcceptedSetLaw
sets_of-accepted commands command policy accepted =
    sets_after-push [] commands command
    ∙ ap (λ decision. sets_of commands ++ cons_option (setting_by (id_of command) (length commands + 1) decision) []) accepted

pub sets_of-refused : RefusedSetLaw
sets_of-refused commands command refusal refused =
    sets_after-push [] commands command
    ∙ ap (λ decision. sets_of commands ++ cons_option (setting_by (id_of command) (length commands + 1) decision) []) refused
    ∙ append-nil (sets_of commands)

grown : (P : List Command → Type 0) → ((commands : List Command) (command : Command) → P commands → P (commands ++ command ∷ []))
    → (before rest : List Command) → P before → P (before ++ rest)
grown P more before [] here = subst P (sym (append-nil before)) here
grown P more before (command ∷ rest) here =
    subst P (append_assoc before (command ∷ []) rest) (grown P more (before ++ command ∷ []) rest (more before command here))

-- what holds of no commands, and of one more, accepted or refused, holds of all lists
pub by_each : (P : List Command → Type 0) → P []
    → ((commands : List Command) (command : Command) (policy : Policy) → next (policy_of commands (id_of command)) command ≡ Ok policy → P commands → P (commands ++ command ∷ []))
    → ((commands : List Command) (command : Command) (refusal : Refusal) → next (policy_of commands (id_of command)) command ≡ Err refusal → P commands → P (commands ++ command ∷ []))
    → (commands : List Command) → P commands
by_each P none accepted refused commands = grown P more [] commands none
  where
    more : (commands : List Command) (command : Command) → P commands → P (commands ++ command ∷ [])
    more commands command here = by (next (policy_of commands (id_of command)) command) refl
      where
        by : (decision : Result Policy Refusal) → next (policy_of commands (id_of command)) command ≡ decision → P (commands ++ command ∷ [])
        by (Ok policy) e = accepted commands command policy e here
        by (Err refusal) e = refused commands command refusal e here

-- an upgrade sets nothing
pub sets_of-upgrade : UpgradeSetLaw
sets_of-upgrade commands = sets_of-refused commands Upgrade Unknown (next-upgrade (policy_of commands 0))

accepted_behind : (before rest : List Command) (command : Command) → IsAcceptedAfter before (rest ++ command ∷ [])
    → IsAcceptedAfter before rest × (judge (before ++ rest) command ≡ None)
accepted_behind before [] command accepted =
    (tt, subst (λ commands. judge commands command ≡ None) (sym (append-nil before)) accepted.0)
accepted_behind before (first ∷ rest) command accepted =
    let behind = accepted_behind (before ++ first ∷ []) rest command accepted.1 in (
      (accepted.0, behind.0),
      subst (λ commands. judge commands command ≡ None) (append_assoc before (first ∷ []) rest) behind.1,
    )

-- the same over accepted lists, where each command makes a policy or is an upgrade
pub by_accepted : (P : List Command → Type 0) → P []
    → ((commands : List Command) (command : Command) (policy : Policy) → IsAccepted commands → next (policy_of commands (id_of command)) command ≡ Ok policy → P commands → P (commands ++ command ∷ []))
    → ((commands : List Command) → IsAccepted commands → P commands → P (commands ++ Upgrade ∷ []))
    → (commands : List Command) → IsAccepted commands → P commands
by_accepted P none more upgraded = by_each (λ commands. IsAccepted commands → P commands) (λ accepted. none)
    (λ commands command policy e here accepted. let behind = accepted_behind [] commands command accepted in more commands command policy behind.0 e (here behind.0))
    (λ commands command refusal e here accepted.
    let behind = accepted_behind [] commands command accepted in
    by_kind commands command refusal e behind.0 (here behind.0) (accepted_next commands command behind.1))
  where
    by_kind : (commands : List Command) (command : Command) (refusal : Refusal) → next (policy_of commands (id_of command)) command ≡ Err refusal
        → IsAccepted commands → P commands
        → (command ≡ Upgrade) ⊎ ((policy : Policy) × (next (policy_of commands (id_of command)) command ≡ Ok policy)) → P (commands ++ command ∷ [])
    by_kind commands command refusal e accepted here (inl upgrade) =
        subst (λ this. P (commands ++ this ∷ [])) (sym upgrade) (upgraded commands accepted here)
    by_kind commands command refusal e accepted here (inr made) = let is_made = made.1 in absurd (cc)

pub sets_of-rise : RisingLaw
sets_of-rise = by_each (λ commands. IsRisingTo 0 (positions (sets_of commands)) (length commands)) (omega arith)
    (λ commands command policy e here.
    subst (λ n. IsRisingTo 0 (positions (sets_of (commands ++ command ∷ []))) n) (sym (length_push commands command))
    (subst (λ sets. IsRisingTo 0 (positions sets) (length commands + 1)) (sym (sets_of-accepted commands command policy e))
    (positions_rise (sets_of commands) (setting_to commands command policy) (length commands) here (omega arith))))
    (λ commands command refusal e here.
    subst (λ sets. IsRisingTo 0 (positions sets) (length (commands ++ command ∷ []))) (sym (sets_of-refused commands command refusal e))
    (rising-longer 0 (positions (sets_of commands)) (length commands) (length (commands ++ command ∷ [])) here (omega (arith, length_push commands command))))

pub length-sets_of : SetCountLaw
length-sets_of = by_accepted (λ commands. length (sets_of commands) + length (filter is_upgrade commands) ≡ length commands) refl
    (λ commands command policy accepted e here.
    let more = ap length (sets_of-accepted commands command policy e) in
    let upgrades = ap length (filter-append is_upgrade commands (command ∷ []) ∙ ap (λ b. filter is_upgrade commands ++ cond b (command ∷ []) []) (next-no_upgrade (policy_of commands (id_of command)) command policy e)) in
    omega (arith, here, more, upgrades, length_push (sets_of commands) (setting_to commands command policy), length_push commands command, length-append (filter is_upgrade commands) []))
    (λ commands accepted here.
    let same = ap length (sets_of-upgrade commands) in
    let upgrades = ap length (filter-append is_upgrade commands (Upgrade ∷ [])) in
    omega (arith, here, same, upgrades, length_push commands Upgrade, length_push (filter is_upgrade commands) Upgrade))

after_push : (floor : ℕ) (sets : List (Setting Policy)) (s : Setting Policy) → length (settings_after floor (sets ++ s ∷ [])) ≤ length (settings_after floor sets) + 1
after_push floor sets s = by (nat_lt floor s.position) refl
  where
    by : (b : Bool) → nat_lt floor s.position ≡ b → length (settings_after floor (sets ++ s ∷ [])) ≤ length (settings_after floor sets) + 1
    by true e = omega (arith, ap length (filter-append (λ t. nat_lt floor t.position) sets (s ∷ []) ∙ ap (λ c. settings_after floor sets ++ cond c (s ∷ []) []) e), length_push (settings_after floor sets) s)
    by false e = omega (arith, ap length (filter-append (λ t. nat_lt floor t.position) sets (s ∷ []) ∙ ap (λ c. settings_after floor sets ++ cond c (s ∷ []) []) e ∙ append-nil (settings_after floor sets)))

after_none : (floor : ℕ) (sets : List (Setting Policy)) (s : Setting Policy) → s.position ≤ floor → length (settings_after floor (sets ++ s ∷ [])) ≡ length (settings_after floor sets)
after_none floor sets s within =
    let past : nat_lt floor s.position ≡ false = grind arith in
    ap length (filter-append (λ t. nat_lt floor t.position) sets (s ∷ []) ∙ ap (λ c. settings_after floor sets ++ cond c (s ∷ []) []) past ∙ append-nil (settings_after floor sets))

pub few_after : SetsAfterLaw
few_after commands floor = by_each (λ commands. length (settings_after floor (sets_of commands)) ≤ length commands - floor) (omega arith)
    (λ commands command policy e here. more commands command (setting_to commands command policy) (ap (λ sets. length (settings_after floor sets)) (sets_of-accepted commands command policy e)) refl here)
    (λ commands command refusal e here. omega (arith, here, ap (λ sets. length (settings_after floor sets)) (sets_of-refused commands command refusal e), length_push commands command))
    commands
  where
    more : (commands : List Command) (command : Command) (s : Setting Policy)
        → length (settings_after floor (sets_of (commands ++ command ∷ []))) ≡ length (settings_after floor (sets_of commands ++ s ∷ []))
        → s.position ≡ length commands + 1 → length (settings_after floor (sets_of commands)) ≤ length commands - floor
        → length (settings_after floor (sets_of (commands ++ command ∷ []))) ≤ length (commands ++ command ∷ []) - floor
    more commands command s same place here = by (nat_lt floor s.position) refl
      where
        by : (b : Bool) → nat_lt floor s.position ≡ b → length (settings_after floor (sets_of (commands ++ command ∷ []))) ≤ length (commands ++ command ∷ []) - floor
        by true e =
            let past : floor < s.position = grind arith in
            omega (arith, same, place, here, past, after_push floor (sets_of commands) s, length_push commands command)
        by false e =
            let within : s.position ≤ floor = grind arith in
            omega (arith, same, place, here, within, after_none floor (sets_of commands) s within, length_push commands command)
