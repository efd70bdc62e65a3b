-- What the calls of one watcher, or of a whole round, mean for what has become of the watchers
use Rattle.watcher_set.proofs.Names.{◌≡◌, ℕ, ◌+◌, ◌<◌, Bool, true, false, List, [], ◌∷◌, ◌++◌, length, length-append, map, refl, sym, ap, subst, ◌∙◌, arith, auditor_of, HasHeard, Listens, HasReported, HasSpareRoom, AreTold, MayBeTold, Stays, Hears, report_at}
use Rattle.std.specs.List.{AllByRecursion, AllZip}
use Rattle.policy_types.specs.declared.command.Command.{Command}
use Rattle.policy_types.specs.declared.watcher.Report.{Report}
use Rattle.policy_types.specs.declared.watcher.Watcher.{Ghosts}
use Rattle.policy_types.specs.Limits.{most_commands}
use Rattle.watcher_set.specs.Noted.{Auditor, noted_of, is_done, report_of, reports_of}
use Rattle.watcher_set.specs.declared.place.Place.{Place}
use Rattle.watcher_set.specs.declared.place.Place.TheVariants.{Listening, Reported}
use Rattle.watcher_set.proofs.Halfway.{AllByRecursion-from_zip, AllZip-then}
use Rattle.watcher_set.proofs.Noting.{noted_all, is_done-more, noted_of-more, is_done-stays, noted_of-stays}

-- a report by its two numbers
abbrev report_by : ℕ → ℕ → Report
report_by seen tally = record { seen = seen; tally = tally }

report_same : (a b : List Command) (f h : List Command → ℕ) → a ≡ b → ((list : List Command) → f list ≡ h list)
    → report_by (length a) (f a) ≡ report_by (length b) (h b)
report_same a b f h same alike =
    ap (λ list. report_by (length list) (f list)) same ∙ ap (λ tally. report_by (length b) tally) (alike b)

module _ {B : Type 0} (g : Ghosts B) where
  -- what the call that readies one watcher leaves
  abbrev pub Readied : Place B → Place B → Type 0
  Readied old new = Stays g old new × HasSpareRoom g new

  pub stays_same : (place : Place B) → Stays g place place
  stays_same (Listening watcher) = (refl, refl, record { stops = λ list. refl; number = λ list. refl })
  stays_same (Reported report) = refl

  -- positions are those directly after so many commands
  module _ (before : ℕ) where
    one_still : (commands : List Command) (auditor : Auditor) (old new : Place B) → HasHeard g before commands auditor old
        → Stays g old new → HasHeard g before commands auditor new
    one_still commands auditor (Listening old) (Listening new) told stays = record {
      noted = stays.0 ∙ told.noted;
      last = λ some. stays.1 ∙ told.last some;
      goes_on = told.goes_on;
      stops = λ list. stays.2.stops list ∙ told.stops list;
      number = λ list. stays.2.number list ∙ told.number list;
    }
    one_still commands auditor (Listening old) (Reported new) told stays = absurd stays
    one_still commands auditor (Reported old) (Listening new) told stays = absurd stays
    one_still commands auditor (Reported old) (Reported new) told stays =
        subst (λ report. HasReported g auditor commands report) (sym stays) told

    -- what the test of a watcher that goes on says of the list with the next command
    says : (commands : List Command) (command : Command) (auditor : Auditor) (watcher : B) (answer : Bool)
        → Listens g auditor before commands watcher → g.stops watcher (g.noted watcher ++ command ∷ []) ≡ answer
        → is_done auditor.stops (commands ++ command ∷ []) ≡ answer
    says commands command auditor watcher answer told said =
        is_done-more auditor.stops commands command told.goes_on ∙ sym (told.stops (commands ++ command ∷ []))
        ∙ subst (λ list. g.stops watcher (list ++ command ∷ []) ≡ answer) told.noted said

    one_more : (commands : List Command) (command : Command) (position : ℕ) → position ≡ before + length commands + 1
        → (auditor : Auditor) (old new : Place B) → HasHeard g before commands auditor old
        → Hears g position command old new → HasHeard g before (commands ++ command ∷ []) auditor new
    one_more commands command position at auditor (Listening old) (Listening new) told hears = record {
      noted = hears.0 ∙ ap (λ list. list ++ command ∷ []) told.noted;
      last = λ some. let long = length-append commands (command ∷ []) in omega (arith, hears.1);
      goes_on = says commands command auditor old false told hears.2;
      stops = λ list. hears.3.stops list ∙ told.stops list;
      number = λ list. hears.3.number list ∙ told.number list;
    }
    one_more commands command position at auditor (Listening old) (Reported report) told hears = record {
      done = says commands command auditor old true told hears.0;
      left = hears.1 ∙ report_same _ _ (g.number old) auditor.number
          (ap (λ list. list ++ command ∷ []) told.noted ∙ sym (noted_of-more auditor.stops commands command told.goes_on))
          told.number;
    }
    one_more commands command position at auditor (Reported old) (Listening new) told hears = absurd hears
    one_more commands command position at auditor (Reported old) (Reported new) told hears = record {
      done = is_done-stays auditor.stops commands command told.done;
      left = hears ∙ told.left ∙ report_same _ _ auditor.number auditor.number
          (sym (noted_of-stays auditor.stops commands command told.done)) (λ list. refl);
    }

    one_report : (commands : List Command) (auditor : Auditor) (place : Place B) → HasHeard g before commands auditor place
        → report_at g place ≡ report_of commands auditor
    one_report commands auditor (Listening watcher) told =
        report_same (g.noted watcher) (noted_of auditor.stops commands) (g.number watcher) auditor.number
        (told.noted ∙ sym (noted_all auditor.stops commands told.goes_on)) told.number
    one_report commands auditor (Reported report) told = told.left

    one_next : (commands : List Command) (position : ℕ) → length commands < most_commands
        → position ≡ before + length commands + 1 → (auditor : Auditor) (place : Place B)
        → HasHeard g before commands auditor place → MayBeTold g position place
    one_next commands position few at auditor (Listening watcher) told =
        let long : length (g.noted watcher) ≡ length commands = ap length told.noted in
        (omega arith, omega arith, λ some. let last = told.last (omega arith) in omega arith)
    one_next commands position few at auditor (Reported report) told = tt

    all_fresh : (watchers : List B) → AllByRecursion (λ watcher. g.noted watcher ≡ []) watchers
        → AllZip (HasHeard g before []) (map (auditor_of g) watchers) (map Listening watchers)
    all_fresh [] fresh = tt
    all_fresh (watcher ∷ watchers) fresh =
        (record { noted = fresh.0; last = λ some. absurd (omega arith); goes_on = refl; stops = λ list. refl; number = λ list. refl }, all_fresh watchers fresh.1)

    -- no round has come yet, and each has noted nothing
    pub AreTold-fresh : (watchers : List B) → AllByRecursion (λ watcher. g.noted watcher ≡ []) watchers
        → AreTold g before [] (map (auditor_of g) watchers) (map Listening watchers)
    AreTold-fresh watchers fresh = record { each = all_fresh watchers fresh }

    -- a round that readies
    pub AreTold-still : (commands : List Command) (auditors : List Auditor) (old new : List (Place B))
        → AreTold g before commands auditors old → AllZip (Stays g) old new → AreTold g before commands auditors new
    AreTold-still commands auditors old new told stay = record {
      each = AllZip-then (HasHeard g before commands) (Stays g) (HasHeard g before commands) (one_still commands) auditors old new told.each stay;
    }

    -- a round that states
    pub AreTold-more : (commands : List Command) (command : Command) (position : ℕ) → position ≡ before + length commands + 1
        → (auditors : List Auditor) (old new : List (Place B)) → AreTold g before commands auditors old
        → AllZip (Hears g position command) old new → AreTold g before (commands ++ command ∷ []) auditors new
    AreTold-more commands command position at auditors old new told hear = record {
      each = AllZip-then (HasHeard g before commands) (Hears g position command) (HasHeard g before (commands ++ command ∷ []))
          (one_more commands command position at) auditors old new told.each hear;
    }

    -- each that goes on has noted what was reported, so it may be reported of the next
    pub AreTold-next : (commands : List Command) (position : ℕ) → length commands < most_commands
        → position ≡ before + length commands + 1 → (auditors : List Auditor) (places : List (Place B))
        → AreTold g before commands auditors places → AllByRecursion (MayBeTold g position) places
    AreTold-next commands position few at auditors places told =
        AllByRecursion-from_zip (HasHeard g before commands) (MayBeTold g position) (one_next commands position few at)
        auditors places told.each

    all_reports : (commands : List Command) (auditors : List Auditor) (places : List (Place B))
        → AllZip (HasHeard g before commands) auditors places → map (report_at g) places ≡ reports_of auditors commands
    all_reports commands [] [] told = refl
    all_reports commands [] (place ∷ places) told = absurd told
    all_reports commands (auditor ∷ auditors) [] told = absurd told
    all_reports commands (auditor ∷ auditors) (place ∷ places) told =
        λ i. one_report commands auditor place told.0 i ∷ all_reports commands auditors places told.1 i

    -- the reports
    pub AreTold-reports : (commands : List Command) (auditors : List Auditor) (places : List (Place B))
        → AreTold g before commands auditors places → map (report_at g) places ≡ reports_of auditors commands
    AreTold-reports commands auditors places told = all_reports commands auditors places told.each
