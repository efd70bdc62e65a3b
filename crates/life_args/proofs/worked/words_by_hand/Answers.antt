use Rattle.life_args.proofs.Names.{◌≡◌, ℕ, List, [], ◌∷◌, refl, inl, inr, codes, decimal, lit≤, arith, pos, None, Some, defaults_fault, walk_fault, InvalidValue, TooManyValues, UnknownArgument, Now, Position, Run, Value, Project, State, Checkpoint, Generate, bare, apart, joined, flag}
use Rattle.std.specs.Fmt.{digits}
use Rattle.clap.specs.Walk.{walked}
use Rattle.policy_value.specs.declared.worth.Measure.TheVariants.{Terminal, Mean, Deficiency}
use Rattle.life_args.specs.declared.mode.Mode.TheVariants as mode
use Rattle.life_args.proofs.WorkedWords.{asks_nothing, b2_name, new_year, no_help, other_years, refused, told, unnamed, untold}
use Rattle.life_args.proofs.worked.words_by_hand.Goals as goal

abbrev day : List ℕ
day = codes "2021-01-01"

pub returns-clause-run : goal.returns-clause-run
returns-clause-run c = (
  told (mode.Run (codes "basis.csv")) [] tt tt (refl, refl),
  told (mode.Run (codes "b2.csv")) (apart (codes "basis") (codes "b2.csv") ∷ []) (inl refl, tt) (refl, tt) (refl, (b2_name, refl)),
)

pub returns-clause-value : goal.returns-clause-value
unfolding digits
returns-clause-value c = (
  told (mode.Value (pos 18628) Now 1 (codes "basis.csv") Terminal) (bare day ∷ []) tt (refl, tt) ((day, refl, new_year), refl, refl, refl, refl),
  told (mode.Value (pos 18628) (Position 5) 64 (codes "basis.csv") Terminal)
      (joined (codes "at") (codes "5") ∷ bare day ∷ apart (codes "workers") (codes "64") ∷ []) (inl refl, (inr (inl refl), tt)) (refl, (refl, tt))
      ((day, refl, new_year), (lit≤ tt, refl), (lit≤ tt, lit≤ tt, refl), refl, refl),
)

pub returns-clause-measure : goal.returns-clause-measure
unfolding digits
returns-clause-measure c = (
  told (mode.Value (pos 18628) Now 1 (codes "basis.csv") Mean) (flag (codes "mean") ∷ bare day ∷ []) (inl refl, tt) (refl, tt)
      ((day, refl, new_year), refl, refl, refl, refl),
  told (mode.Value (pos 18628) (Position 5) 1 (codes "basis.csv") Deficiency)
      (bare day ∷ apart (codes "at") (codes "5") ∷ flag (codes "deficiency") ∷ []) (inl refl, (inr (inl refl), tt)) (refl, (refl, tt))
      ((day, refl, new_year), (lit≤ tt, refl), refl, refl, refl),
)

pub returns-clause-measure_near : goal.returns-clause-measure_near
unfolding walk_fault walked defaults_fault
returns-clause-measure_near c = (
  untold Value (flag (codes "mean") ∷ bare day ∷ flag (codes "deficiency") ∷ []) (inl refl, (inr (inl refl), tt)) (refl, tt) (λ said. said.1.4),
  untold Value (flag (codes "mean") ∷ bare day ∷ flag (codes "mean") ∷ []) (inl refl, (inl refl, tt)) (refl, tt) (λ said. said.1.4),
  refused Value (codes "--mean=" ∷ day ∷ []) TooManyValues [] refl,
  refused Value (day ∷ codes "--at" ∷ codes "--mean" ∷ []) InvalidValue [] refl,
  refused State (codes "--mean" ∷ []) UnknownArgument [] refl,
)

pub returns-clause-project : goal.returns-clause-project
unfolding digits
returns-clause-project c = (
  told (mode.Project (pos 18628) 1 1 (codes "basis.csv")) (bare day ∷ bare (codes "1") ∷ []) tt (refl, (refl, tt))
      ((day, refl, new_year, (lit≤ tt, lit≤ tt)), refl, refl),
  told (mode.Project (pos 18628) 131 64 (codes "b2.csv"))
      (joined (codes "workers") (codes "64") ∷ bare day ∷ bare (codes "131") ∷ apart (codes "basis") (codes "b2.csv") ∷ [])
      (inl refl, (inr (inl refl), tt)) (refl, (refl, (refl, tt)))
      ((day, refl, new_year, (lit≤ tt, lit≤ tt)), (lit≤ tt, lit≤ tt, refl), (b2_name, refl)),
)

pub returns-clause-project_near : goal.returns-clause-project_near
unfolding digits walk_fault walked defaults_fault
returns-clause-project_near c = (
  untold Project (bare day ∷ []) tt (refl, tt) (λ said. let no : day ∷ [] ≡ said.1.0.0 ∷ decimal said.0.1 ∷ [] = said.1.0.1 in cc),
  untold Project (bare day ∷ bare (codes "0") ∷ []) tt (refl, (refl, tt))
      (λ said. other_years (codes "0") 0 refl (lit≤ tt) (λ some few. omega (arith, some)) said.0.0 said.0.1 said.1.0),
  untold Project (bare day ∷ bare (codes "132") ∷ []) tt (refl, (refl, tt))
      (λ said. other_years (codes "132") 132 refl (lit≤ tt) (λ some few. omega (arith, few)) said.0.0 said.0.1 said.1.0),
  untold Project (bare day ∷ bare (codes "1") ∷ bare (codes "2") ∷ []) tt (refl, (refl, (refl, tt)))
      (λ said. let no : day ∷ codes "1" ∷ codes "2" ∷ [] ≡ said.1.0.0 ∷ decimal said.0.1 ∷ [] = said.1.0.1 in cc),
  refused Project (day ∷ codes "1" ∷ codes "--at" ∷ codes "0" ∷ []) UnknownArgument [] refl,
)

pub returns-clause-state : goal.returns-clause-state
unfolding digits
returns-clause-state c = (
  told (mode.State None) [] tt tt refl,
  told (mode.State (Some 7001)) (bare (codes "7001") ∷ []) tt (refl, tt) ((lit≤ tt, lit≤ tt), refl),
)

pub returns-clause-checkpoint : goal.returns-clause-checkpoint
unfolding walk_fault walked defaults_fault
returns-clause-checkpoint c = (
  told mode.Checkpoint [] tt tt refl,
  untold Checkpoint (bare (codes "now") ∷ []) tt (refl, tt) (λ said. let no : codes "now" ∷ [] ≡ [] = said.1 in cc),
  refused Checkpoint (codes "--at" ∷ codes "0" ∷ []) UnknownArgument [] refl,
)

pub returns-clause-load : goal.returns-clause-load
unfolding digits
returns-clause-load c = (
  told (mode.Generate 1 2 3) (bare (codes "1") ∷ bare (codes "2") ∷ bare (codes "3") ∷ []) tt (refl, (refl, (refl, tt)))
      (refl, (lit≤ tt, (lit≤ tt, lit≤ tt), (lit≤ tt, lit≤ tt))),
  told (mode.Load 0 100000 8 64) (bare (codes "0") ∷ bare (codes "100000") ∷ bare (codes "8") ∷ bare (codes "64") ∷ []) tt
      (refl, (refl, (refl, (refl, tt)))) (refl, (lit≤ tt, (lit≤ tt, lit≤ tt), (lit≤ tt, lit≤ tt)), (lit≤ tt, lit≤ tt)),
)

pub returns-clause-near : goal.returns-clause-near
returns-clause-near c = (
  asks_nothing [] (λ mode are. are),
  untold Run (bare (codes "now") ∷ []) tt (refl, tt) (λ said. let no : codes "now" ∷ [] ≡ [] = said.1.0 in cc),
  untold Value [] tt tt (λ said. let no : [] ≡ said.1.0.0 ∷ [] = said.1.0.1 in cc),
  untold Generate (bare (codes "1") ∷ bare (codes "1") ∷ []) tt (refl, (refl, tt))
      (λ said. let no : codes "1" ∷ codes "1" ∷ [] ≡ decimal said.0.0 ∷ decimal said.0.1 ∷ decimal said.0.2 ∷ [] = said.1.0 in cc),
  unnamed (codes "help") [] no_help,
)
