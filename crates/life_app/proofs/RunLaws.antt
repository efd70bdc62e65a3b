-- What a list of runs leaves, each ended by its return or by a crash
use Rattle.life_app.proofs.Names.{◌≡◌, ℕ, ◌≤◌, ◌⊎◌, List, [], ◌∷◌, ◌++◌, ◌+◌, length, refl, ap, sym, ◌∙◌, subst, inl, inr, append-nil, append_assoc, arith, filter_map-append, Ghosts, Command, Entry, accepted_by, accepted_of, commands_after, IsSafe, HoldsOnce, IsLeftAlone, IsLeftBy, IsOneMore, Opens, opens_to_one, AddsCommands, AreLeft, AreRuns, HasReturned, IsLeftSo, OneRun, WasCut}
use Rattle.std.proofs.lemmas.List.{length-append}
use Rattle.life_app.proofs.CrashLaws.{in_parts}

-- Each image that a disk may leave opens to commands with P: these, or these and one more.
pub record Starts {D : Type 0} (g : Ghosts D) (P : List Command → Type 0) (disk : D) : Type 0 where
  pub base : List Command
  pub is : P base
  pub images : (image : List ℕ) → g.may_leave disk image → (commands : List Command) × Opens image commands × P commands
      × ((commands ≡ base) ⊎ ((command : Command) × (commands ≡ base ++ command ∷ [])))

-- what has P, and after it what a run adds
abbrev pub Grown : {D : Type 0} → (List Command → Type 0) → OneRun D → List Command → Type 0
Grown P run commands =
    (before held more : List Command) × P before × AddsCommands run held more × (commands ≡ before ++ held ++ more)

same_front : (front xs ys : List Command) → front ++ xs ≡ front ++ ys → xs ≡ ys
same_front [] xs ys same = same
same_front (command ∷ front) xs ys same = same_front front xs ys (cc)

-- a run that had answered nothing may add nothing
adds_nothing : {D : Type 0} (run : OneRun D) → run.answered ≡ [] → AddsCommands run [] []
adds_nothing run none = record { front = (accepted_of run.history, refl); one = tt; answered = ([], sym (append-nil run.answered ∙ none)) }

grown_same : {D : Type 0} (P : List Command → Type 0) (run : OneRun D) (commands : List Command) → run.answered ≡ [] → P commands
    → Grown P run commands
grown_same P run commands none is = (commands, [], [], is, adds_nothing run none, sym (append-nil (commands ++ []) ∙ append-nil commands))

module _ {D : Type 0} (g : Ghosts D) (P : List Command → Type 0) (run : OneRun D) where
  -- a safe disk whose file opens to commands with P
  from_safe : (Q : List Command → Type 0) (disk : D) (commands : List Command) → IsSafe g disk → Opens (g.reads disk) commands → Q commands
      → Starts g Q disk
  from_safe Q disk commands safe opens is = record {
    base = commands;
    is = is;
    images = λ image left. (commands, subst (λ (bytes : List ℕ). Opens bytes commands) (sym (safe image left)) opens, is, inl refl);
  }

  -- if no office was opened, the images are as before, or open to what the file did
  still : (disk : D) → run.answered ≡ [] → Starts g P disk → Starts g (Grown P run) disk
  still disk none starts = record {
    base = starts.base;
    is = grown_same P run starts.base none starts.is;
    images = λ image left.
        let held = starts.images image left in
        (held.0, held.1, grown_same P run held.0 none held.2, held.3);
  }

-- The facts of a disk that the trait gives.
pub record Facts {D : Type 0} (g : Ghosts D) : Type 0 where
  pub reads_as_image : (disk : D) → g.honest disk → g.may_leave disk (g.reads disk)
  pub counts_now : (disk : D) (moment : ℕ) (image : List ℕ) → g.honest disk → moment ≤ g.clock disk → g.may_leave disk image
      → g.left_since disk moment image
  pub only_now : (disk : D) (image : List ℕ) → g.honest disk → g.left_since disk (g.clock disk) image → g.may_leave disk image

-- an image that opens to commands with P: these, or these and one more
abbrev Held : (List Command → Type 0) → List Command → List ℕ → Type 0
Held P base image = (commands : List Command) × Opens image commands × P commands
    × ((commands ≡ base) ⊎ ((command : Command) × (commands ≡ base ++ command ∷ [])))

held_length : (base commands : List Command) → (commands ≡ base) ⊎ ((command : Command) × (commands ≡ base ++ command ∷ []))
    → (length base ≤ length commands) × (length commands ≤ length base + 1)
held_length base commands (inl same) = rw same (omega arith, omega arith)
held_length base commands (inr more) = rw more.1 (rw (length-append base (more.0 ∷ [])) (omega arith, omega arith))

no_items : (xs : List Command) → length xs ≡ 0 → xs ≡ []
no_items [] none = refl
no_items (x ∷ xs) none = cc

some_or_none : (xs : List Command) → (xs ≡ []) ⊎ (1 ≤ length xs)
some_or_none [] = inl refl
some_or_none (x ∷ xs) = inr (omega arith)

front_of_none : (front rest : List Entry) → [] ≡ front ++ rest → front ≡ []
front_of_none [] rest none = refl
front_of_none (entry ∷ front) rest none = cc

module _ {D : Type 0} (g : Ghosts D) (facts : Facts g) (P : List Command → Type 0) (old : D) (run : OneRun D) (honest : g.honest run.new)
    (starts : Starts g P old) where
  -- the commands to which the file opens
  near : g.honest old → (commands : List Command) → Opens (g.reads old) commands
      → P commands × ((commands ≡ starts.base) ⊎ ((command : Command) × (commands ≡ starts.base ++ command ∷ [])))
  near before commands opens =
      let held = starts.images (g.reads old) (facts.reads_as_image old before) in
      let same : held.0 ≡ commands = opens_to_one (g.reads old) held.0 commands held.1 opens in
      subst (λ (cs : List Command). P cs × ((cs ≡ starts.base) ⊎ ((command : Command) × (cs ≡ starts.base ++ command ∷ [])))) same
      (held.2, held.3)

  -- no office was opened
  module _ (none : run.history ≡ []) (later : g.clock old ≤ g.clock run.new)
      (images : (image : List ℕ) → g.left_since run.new (g.clock old) image → Held P starts.base image) where
    unanswered : HasReturned run ⊎ WasCut g old run → run.answered ≡ []
    unanswered (inl returned) = returned.all ∙ ap accepted_of none
    unanswered (inr cut) = elim cut.when [
      | inl nothing ↦ nothing
      | inr some ↦ some.answered ∙ ap accepted_of (front_of_none some.front some.rest (sym none ∙ some.split))
    ]

    unopened : HasReturned run ⊎ WasCut g old run → Starts g (Grown P run) run.next
    unopened (inl returned) =
        let at_end : Starts g P run.new = record {
          base = starts.base;
          is = starts.is;
          images = λ image left. images image (facts.counts_now run.new (g.clock old) image honest later left);
        } in
        subst (λ (disk : D). Starts g (Grown P run) disk) (sym returned.handed)
        (still g P run run.new (unanswered (inl returned)) at_end)
    unopened (inr cut) =
        let held = images (g.reads run.next) cut.left in
        from_safe g P run (Grown P run) run.next held.0 cut.safe held.1
        (grown_same P run held.0 (unanswered (inr cut)) held.2)

  alone_later : IsLeftAlone g old run.new → g.clock old ≤ g.clock run.new
  alone_later alone = elim (alone.synced honest) [
    | inl looks ↦ looks.later
    | inr at ↦ (let later = at.1.later in let passed = at.1.passed in omega (arith, later, passed))
  ]

  alone_image : IsLeftAlone g old run.new → (image : List ℕ) → g.left_since run.new (g.clock old) image → Held P starts.base image
  alone_image alone image left = elim (alone.since honest image left) [
    | inl before ↦ starts.images image before
    | inr alike ↦ (let is = near (alone.honesty honest) alike.0 alike.1 in (alike.0, alike.2, is.0, is.1))
  ]

  same_image : run.new ≡ old → (image : List ℕ) → g.left_since run.new (g.clock old) image → Held P starts.base image
  same_image same image left =
      starts.images image (facts.only_now old image (subst (λ (d : D). g.honest d) same honest)
      (subst (λ (d : D). g.left_since d (g.clock old) image) same left))

  -- an office was opened
  module _ (left : IsLeftBy g old run.new run.opening run.history) where
    opened_near : P run.opening.commands
        × ((run.opening.commands ≡ starts.base) ⊎ ((command : Command) × (run.opening.commands ≡ starts.base ++ command ∷ [])))
    opened_near = near (left.honesty honest) run.opening.commands (left.opened honest)

    adds_all : HasReturned run → (more : List Command) → IsOneMore run.history (accepted_of run.history) more
        → AddsCommands run (accepted_of run.history) more
    adds_all returned more one = record {
      front = ([], sym (append-nil (accepted_of run.history)));
      one = one;
      answered = (more, ap (λ (cs : List Command). cs ++ more) (sym returned.all));
    }

    after : HasReturned run → Starts g (Grown P run) run.new
    after returned = record {
      base = commands_after run.opening run.history;
      is = (
        run.opening.commands,
        accepted_of run.history,
        [],
        opened_near.0,
        adds_all returned [] tt,
        sym (append-nil (commands_after run.opening run.history)),
      );
      images = λ image may. elim (left.now honest image may) [
        | inl all ↦ (
          commands_after run.opening run.history,
          inl all,
          (
            run.opening.commands,
            accepted_of run.history,
            [],
            opened_near.0,
            adds_all returned [] tt,
            sym (append-nil (commands_after run.opening run.history)),
          ),
          inl refl,
        )
        | inr more ↦ (
          commands_after run.opening run.history ++ more.0 ∷ [],
          inl more.2,
          (
            run.opening.commands,
            accepted_of run.history,
            more.0 ∷ [],
            opened_near.0,
            adds_all returned (more.0 ∷ []) more.1,
            refl,
          ),
          inr (more.0, refl),
        )
      ];
    }

    -- what had been answered is held
    answered_in : WasCut g old run → (held more : List Command) → Opens (g.reads run.next) (run.opening.commands ++ held ++ more)
        → (rest : List Command) × (held ++ more ≡ run.answered ++ rest)
    answered_in cut held more opens = elim cut.when [
      | inl nothing ↦ (held ++ more, ap (λ (cs : List Command). cs ++ (held ++ more)) (sym nothing))
      | inr some ↦
          let least = some.kept.since (g.reads run.next) some.late in
          let same = opens_to_one (g.reads run.next) _ _ opens least.1 in (
            least.0,
            same_front run.opening.commands (held ++ more) (accepted_of some.front ++ least.0)
                (sym (append_assoc run.opening.commands held more) ∙ same ∙ append_assoc run.opening.commands (accepted_of some.front) least.0)
                ∙ ap (λ (cs : List Command). cs ++ least.0) (sym some.answered),
          )
    ]

    -- the same for an image from before the run: then no more than one posting was answered, which had been in flight
    -- before
    cut_early : WasCut g old run → Held P starts.base (g.reads run.next)
        → (commands : List Command) × Opens (g.reads run.next) commands × Grown P run commands
    cut_early cut held = elim cut.when [
      | inl nothing ↦ (held.0, held.1, grown_same P run held.0 nothing held.2)
      | inr some ↦ elim (some_or_none (accepted_of some.front)) [
        | inl nothing ↦ (held.0, held.1, grown_same P run held.0 (some.answered ∙ nothing) held.2)
        | inr one ↦
            let least = some.kept.since (g.reads run.next) some.late in
            let same : held.0 ≡ commands_after run.opening some.front ++ least.0 = opens_to_one (g.reads run.next) _ _ held.1 least.1 in
            let short = held_length starts.base held.0 held.3 in
            let long = held_length starts.base run.opening.commands opened_near.1 in
            let lengths : length held.0 ≡ length run.opening.commands + length (accepted_of some.front) + length least.0 =
            ap length same ∙ length-append (commands_after run.opening some.front) least.0
            ∙ ap (λ n. n + length least.0) (length-append run.opening.commands (accepted_of some.front)) in
            let none : least.0 ≡ [] = no_items least.0 (let s = short.1 in let l = long.0 in omega (arith, s, l, lengths, one)) in (
              held.0,
              held.1,
              (
                run.opening.commands,
                accepted_of some.front,
                [],
                opened_near.0,
                record {
                  front = (
                    accepted_of some.rest,
                    ap accepted_of some.split ∙ filter_map-append (λ (e : Entry). accepted_by e.call e.reply) some.front some.rest,
                  );
                  one = tt;
                  answered = ([], ap (λ (cs : List Command). cs ++ []) (sym some.answered));
                },
                same ∙ ap (λ (cs : List Command). commands_after run.opening some.front ++ cs) none,
              ),
            )
      ]
    ]

    cut_late : WasCut g old run → HoldsOnce run.opening run.history (g.reads run.next)
        → (commands : List Command) × Opens (g.reads run.next) commands × Grown P run commands
    cut_late cut once =
        let parts = in_parts run.opening run.history (g.reads run.next) once in (
          run.opening.commands ++ parts.held ++ parts.more,
          parts.opens,
          (
            run.opening.commands,
            parts.held,
            parts.more,
            opened_near.0,
            record { front = (parts.rest, parts.front); one = parts.one; answered = answered_in cut parts.held parts.more parts.opens },
            refl,
          ),
        )

    opened : HasReturned run ⊎ WasCut g old run → Starts g (Grown P run) run.next
    opened (inl returned) = subst (λ (disk : D). Starts g (Grown P run) disk) (sym returned.handed) (after returned)
    opened (inr cut) =
        let held : (commands : List Command) × Opens (g.reads run.next) commands × Grown P run commands = elim (left.since honest (g.reads run.next) cut.left) [
          | inl before ↦ cut_early cut (starts.images (g.reads run.next) before)
          | inr once ↦ cut_late cut once
        ] in
        from_safe g P run (Grown P run) run.next held.0 cut.safe held.1 held.2

  pub one_more_run : IsLeftSo g old run.new run.opening run.history → HasReturned run ⊎ WasCut g old run → Starts g (Grown P run) run.next
  one_more_run (inl left) ended = opened left ended
  one_more_run (inr (inl alone)) ended = unopened alone.0 (alone_later alone.1) (alone_image alone.1) ended
  one_more_run (inr (inr same)) ended = unopened same.0 (rw same.1 (omega arith)) (same_image same.1) ended

abbrev GrownBy : {D : Type 0} → (List Command → Type 0) → List (OneRun D) → List Command → Type 0
GrownBy P [] commands = P commands
GrownBy P (run ∷ runs) commands = GrownBy (Grown P run) runs commands

module _ {D : Type 0} (g : Ghosts D) (facts : Facts g) where
  all_runs : (P : List Command → Type 0) (first last : D) (runs : List (OneRun D)) → AreRuns g first runs last → Starts g P first
      → Starts g (GrownBy P runs) last
  all_runs P first last [] same starts = subst (λ (disk : D). Starts g P disk) (sym same) starts
  all_runs P first last (run ∷ runs) are starts =
      all_runs (Grown P run) run.next last runs are.1 (one_more_run g facts P first run are.0.honest starts are.0.disk are.0.ended)

-- what the runs left, each after those before it
one_by_one : {D : Type 0} (P : List Command → Type 0) (runs : List (OneRun D)) (commands : List Command) → GrownBy P runs commands
    → (before : List Command) × P before × AreLeft before runs commands
one_by_one P [] commands is = (commands, is, refl)
one_by_one P (run ∷ runs) commands grown =
    let rest = one_by_one (Grown P run) runs commands grown in (
      rest.1.0,
      rest.1.3,
      (rest.1.1, rest.1.2, rest.1.4, subst (λ (before : List Command). AreLeft before runs commands) rest.1.5 rest.2),
    )

pub runs_left : {D : Type 0} (g : Ghosts D) → Facts g → (first last : D) (commands : List Command) (runs : List (OneRun D)) (image : List ℕ)
    → IsSafe g first → Opens (g.reads first) commands → AreRuns g first runs last → g.may_leave last image
    → (held : List Command) × Opens image held × AreLeft commands runs held
runs_left g facts first last commands runs image safe opens are left =
    let at_start : Starts g (λ (cs : List Command). cs ≡ commands) first = record {
      base = commands;
      is = refl;
      images = λ image left. (commands, subst (λ (bytes : List ℕ). Opens bytes commands) (sym (safe image left)) opens, refl, inl refl);
    } in
    let at_end = (all_runs g facts (λ (cs : List Command). cs ≡ commands) first last runs are at_start).images image left in
    let held = one_by_one (λ (cs : List Command). cs ≡ commands) runs at_end.0 at_end.2 in
    (at_end.0, at_end.1, subst (λ (before : List Command). AreLeft before runs at_end.0) held.1 held.2)
