-- What the exit status says of a valuation
use Rattle.valuing_modes.proofs.Names.{◌≡◌, ℕ, ◌≤◌, ◌<◌, ◌⊎◌, ℤ, List, length, refl, ap, subst, inl, inr, arith, AppendsPart, Ghosts, Command, At, Dated, Measure, Opens, OpensToNone, Ending, Done, Usage, BadBasis, BadJournal, WriteFault, DiskFault, NoMemory, Ahead, Shelving, Stream, WroteAll, opens_to_none, read_as_before, read_refused, read_to_end, EndsValue, EndsValuing, IsAhead, IsValued, position_of}
use Rattle.outside_io.specs.Faults.{Rose}
use Rattle.outside_io.specs.Shelves.{Files}
use Rattle.basis_shelf.specs.Bases.{IsBasis}
use Rattle.basis_shelf.specs.FirstBad.{IsFirstBadFile}
use Rattle.basis_shelf.specs.declared.fault.BadBasis.{BadBasis as ABadBasis}
use Rattle.basis_shelf.proofs.OneBasis.{basis_or_bad}
use Rattle.office_state.proofs.JournalLaws.{opens_to_one}
use Rattle.program_endings.specs.Texts.{EndsReadOnly}
use Rattle.program_endings.specs.Status.{status_of}
use Rattle.program_endings.specs.WithoutBasis.{EndsNoBasis, SaysBadFile}
use Rattle.program_endings.proofs.BasisSteps.{bad_refused, basis_refused}

module _ {D : Type 0} (g : Ghosts D) (old new : D) (on : ℤ) (at : At) (measure : Measure) (output : Stream) where
  -- nothing is valued of a file that opens to no commands
  never_valued : (basis : List Dated) → g.honest new → OpensToNone (g.reads old)
      → (Wrote : List ℕ → Type 0) → IsValued g old new on at measure basis Wrote → ⊥
  never_valued basis honest none Wrote valued = none valued.commands (valued.disk.opened honest)

  -- nor where fewer commands than are asked for are there
  never_beyond : (basis : List Dated) (commands : List Command) → g.honest new → Opens (g.reads old) commands
      → length commands < position_of at (length commands) → (Wrote : List ℕ → Type 0) → IsValued g old new on at measure basis Wrote → ⊥
  never_beyond basis commands honest opens past Wrote valued =
      let same : commands ≡ valued.commands = opens_to_one (g.reads old) commands valued.commands opens (valued.disk.opened honest) in
      let past_too : length valued.commands < position_of at (length valued.commands) =
      subst (λ (cs : List Command). length cs < position_of at (length cs)) same past in
      omega (arith, past_too, valued.so.reached)

  valuing_as_before : (basis : List Dated) (ending : Ending) → EndsValuing g old new on at measure basis output ending
      → g.honest new → OpensToNone (g.reads old) → g.reads new ≡ g.reads old
  valuing_as_before basis ending ends honest none = elim ends [
    | inl read ↦ read_as_before g old new (IsValued g old new on at measure basis) output ending read (never_valued basis honest none) honest none
    | inr ahead ↦ absurd (none ahead.1.commands (ahead.1.disk.opened honest))
  ]

  valuing_refused : (basis : List Dated) (ending : Ending) → EndsValuing g old new on at measure basis output ending
      → g.honest new → OpensToNone (g.reads old) → (Rose (g.faults old) (g.faults new) → ⊥)
      → (status_of ending ≡ 5) ⊎ (status_of ending ≡ 9)
  valuing_refused basis ending ends honest none disk_held = elim ends [
    | inl read ↦ read_refused g old new (IsValued g old new on at measure basis) output ending read (never_valued basis honest none) disk_held
    | inr ahead ↦ absurd (none ahead.1.commands (ahead.1.disk.opened honest))
  ]

  valuing_to_end : (basis : List Dated) (ending : Ending) (commands : List Command) → EndsValuing g old new on at measure basis output ending
      → g.honest new → Opens (g.reads old) commands → position_of at (length commands) ≤ length commands
      → (Rose output.faults_before output.faults_after → ⊥) → (Rose (g.faults old) (g.faults new) → ⊥)
      → (status_of ending ≡ 0) ⊎ (status_of ending ≡ 9)
  valuing_to_end basis ending commands ends honest opens reached output_held disk_held = elim ends [
    | inl read ↦ read_to_end g old new (IsValued g old new on at measure basis) output ending commands read honest opens output_held disk_held
    | inr ahead ↦
        let same : commands ≡ ahead.1.commands = opens_to_one (g.reads old) commands ahead.1.commands opens (ahead.1.disk.opened honest) in
        let reached_too : position_of at (length ahead.1.commands) ≤ length ahead.1.commands =
        subst (λ (cs : List Command). position_of at (length cs) ≤ length cs) same reached in
        absurd (omega (arith, reached_too, ahead.1.so.ahead))
  ]

  read_beyond : (basis : List Dated) (ending : Ending) (commands : List Command) → EndsReadOnly g old new (IsValued g old new on at measure basis) output ending
      → g.honest new → Opens (g.reads old) commands → length commands < position_of at (length commands)
      → (Rose (g.faults old) (g.faults new) → ⊥) → status_of ending ≡ 9
  read_beyond basis (NoMemory lack) commands read honest opens past disk_held = refl
  read_beyond basis Done commands read honest opens past disk_held = absurd (never_beyond basis commands honest opens past (WroteAll output) read)
  read_beyond basis WriteFault commands read honest opens past disk_held =
      absurd (never_beyond basis commands honest opens past (AppendsPart output.before output.after) read.1)
  read_beyond basis BadJournal commands read honest opens past disk_held = absurd (opens_to_none g old new output read.0 honest commands opens)
  read_beyond basis DiskFault commands read honest opens past disk_held = absurd (disk_held read.0.1)
  read_beyond basis _ commands read honest opens past disk_held = absurd read.0

  valuing_beyond : (basis : List Dated) (ending : Ending) (commands : List Command) → EndsValuing g old new on at measure basis output ending
      → g.honest new → Opens (g.reads old) commands → length commands < position_of at (length commands)
      → (Rose (g.faults old) (g.faults new) → ⊥) → (status_of ending ≡ 10) ⊎ (status_of ending ≡ 9)
  valuing_beyond basis ending commands ends honest opens past disk_held = elim ends [
    | inl read ↦ inr (read_beyond basis ending commands read honest opens past disk_held)
    | inr ahead ↦ inl (ap status_of ahead.0)
  ]

  module _ (name : List ℕ) (shelf : Shelving) where
    pub value_as_before : (ending : Ending) → EndsValue g old new on at measure name shelf output ending
        → g.honest new → OpensToNone (g.reads old) → g.reads new ≡ g.reads old
    value_as_before ending ends honest none = elim ends [
      | inl by ↦ valuing_as_before by.basis ending by.ends honest none
      | inr no_basis ↦ ap g.reads no_basis.0
    ]

    -- no valuation ends as arguments of no command do
    pub value_usage : EndsValue g old new on at measure name shelf output Usage → ⊥
    value_usage ends = elim ends [
      | inl by ↦ elim by.ends [
        | inl read ↦ read.0
        | inr ahead ↦ (let other : Usage ≡ Ahead = ahead.0 in absurd (cc))
      ]
      | inr none ↦ none.1
    ]

    pub value_bad_file : EndsValue g old new on at measure name shelf output BadBasis → EndsNoBasis name shelf output BadBasis
    value_bad_file ends = elim ends [
      | inl by ↦ elim by.ends [
        | inl read ↦ absurd read.0
        | inr ahead ↦ (let other : BadBasis ≡ Ahead = ahead.0 in absurd (cc))
      ]
      | inr none ↦ none.1
    ]

    pub value_ahead : EndsValue g old new on at measure name shelf output Ahead → IsAhead g old new at output
    value_ahead ends = elim ends [
      | inl by ↦ elim by.ends [
        | inl read ↦ absurd read.0
        | inr ahead ↦ ahead.1
      ]
      | inr none ↦ absurd none.1
    ]

    module _ (files : Files) (agrees : shelf.Agrees files) where
      pub value_unfit : (ending : Ending) (bad : ABadBasis) → EndsValue g old new on at measure name shelf output ending
          → IsFirstBadFile files name bad → (Rose shelf.faults_before shelf.faults_after → ⊥)
          → SaysBadFile bad output (status_of ending) ⊎ (status_of ending ≡ 9)
      value_unfit ending bad ends first shelf_held = elim ends [
        | inl by ↦ absurd (basis_or_bad files name by.basis bad (by.is files agrees) first)
        | inr none ↦ bad_refused output name shelf files agrees shelf_held ending bad first none.1
      ]

      module _ (basis : List Dated) (is : IsBasis files name basis) (shelf_held : Rose shelf.faults_before shelf.faults_after → ⊥)
          (honest : g.honest new) (disk_held : Rose (g.faults old) (g.faults new) → ⊥) where
        pub value_refused : (ending : Ending) → EndsValue g old new on at measure name shelf output ending → OpensToNone (g.reads old)
            → (status_of ending ≡ 5) ⊎ (status_of ending ≡ 9)
        value_refused ending ends none = elim ends [
          | inl by ↦ valuing_refused by.basis ending by.ends honest none disk_held
          | inr without ↦ inr (basis_refused output name shelf files agrees shelf_held ending basis is without.1)
        ]

        pub value_to_end : (ending : Ending) (commands : List Command) → EndsValue g old new on at measure name shelf output ending
            → Opens (g.reads old) commands → position_of at (length commands) ≤ length commands
            → (Rose output.faults_before output.faults_after → ⊥) → (status_of ending ≡ 0) ⊎ (status_of ending ≡ 9)
        value_to_end ending commands ends opens reached output_held = elim ends [
          | inl by ↦ valuing_to_end by.basis ending commands by.ends honest opens reached output_held disk_held
          | inr without ↦ inr (basis_refused output name shelf files agrees shelf_held ending basis is without.1)
        ]

        pub value_beyond : (ending : Ending) (commands : List Command) → EndsValue g old new on at measure name shelf output ending
            → Opens (g.reads old) commands → length commands < position_of at (length commands)
            → (status_of ending ≡ 10) ⊎ (status_of ending ≡ 9)
        value_beyond ending commands ends opens past = elim ends [
          | inl by ↦ valuing_beyond by.basis ending commands by.ends honest opens past disk_held
          | inr without ↦ inr (basis_refused output name shelf files agrees shelf_held ending basis is without.1)
        ]
