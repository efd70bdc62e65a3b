-- What a verb's values say, value by value
use Rattle.life_args.proofs.Names.{◌≡◌, ℕ, ℤ, arith, decimal, refl, sym, subst, List, ◌∷◌, Option, Result, Err, IsErrAnd, ⊤, Text, At, Measure, WordsFault, Mode, Verb, Run, Value, Project, State, Checkpoint, Generate, Load, AtMostOne, GivesAsked, values_named, AreDrawn, AreDraws, AsksFor, SaysMode, verb_of}
use Rattle.clap.specs.declared.parser.matches.Found.{Found}
use Rattle.life_args.specs.declared.mode.Mode.TheVariants as mode
use Rattle.life_args.proofs.Answering.{refused}

-- what a verb's modes are made of
abbrev pub Fields : Verb → Type 0
Fields Run = Text
Fields Value = ℤ × At × ℕ × Text × Measure
Fields Project = ℤ × ℕ × ℕ × Text
Fields State = Option ℕ
Fields Checkpoint = ⊤
Fields Generate = ℕ × ℕ × ℕ
Fields Load = ℕ × ℕ × ℕ × ℕ

abbrev pub mode_with : (verb : Verb) → Fields verb → Mode
mode_with Run basis = mode.Run basis
mode_with Value all = mode.Value all.0 all.1 all.2 all.3 all.4
mode_with Project all = mode.Project all.0 all.1 all.2 all.3
mode_with State id = mode.State id
mode_with Checkpoint all = mode.Checkpoint
mode_with Generate all = mode.Generate all.0 all.1 all.2
mode_with Load all = mode.Load all.0 all.1 all.2 all.3

pub its_verb : (verb : Verb) (all : Fields verb) → verb_of (mode_with verb all) ≡ verb
its_verb Run all = refl
its_verb verb all = refl

-- the values of each id say one of the verb's modes
abbrev pub Said : Verb → (Text → List Text) → Type 0
Said verb values = (all : Fields verb) × SaysMode values (mode_with verb all)

said_mode : (values : Text → List Text) (one : Mode) → SaysMode values one → Said (verb_of one) values
said_mode values (mode.Run basis) says = (basis, says)
said_mode values (mode.Value on at workers basis measure) says = ((on, at, workers, basis, measure), says)
said_mode values (mode.Project on years workers basis) says = ((on, years, workers, basis), says)
said_mode values (mode.State id) says = (id, says)
said_mode values mode.Checkpoint says = (tt, says)
said_mode values (mode.Generate seed count lanes) says = ((seed, count, lanes), says)
said_mode values (mode.Load seed count lanes workers) says = ((seed, count, lanes, workers), says)

pub said_by : (values : Text → List Text) (verb : Verb) (one : Mode) → verb_of one ≡ verb → SaysMode values one → Said verb values
said_by values verb one is says = subst (λ v. Said v values) is (said_mode values one says)

pub said_in : (verb : Verb) (found : Found) (one : Mode) → AsksFor verb found one → Said verb (values_named found)
said_in verb found one asks = said_by (values_named found) verb one asks.is asks.says

-- the fault of an option's values is its verb's
pub option_refused : {T : Type 0} (verb : Verb) (found : Found) (id : Text) (P : Option Text → T → Type 0) (values : List Text) (r : Result Mode WordsFault) (fault : WordsFault)
    → IsErrAnd r (λ y. y ≡ fault) → values ≡ values_named found id → GivesAsked (λ answer. AtMostOne values (λ o. P o answer)) (Err fault)
    → (Said verb (values_named found) → (answer : T) × AtMostOne (values_named found id) (λ o. P o answer)) → GivesAsked (AsksFor verb found) r
option_refused verb found id P values r fault is same none part = refused (λ answer. AtMostOne values (λ o. P o answer)) (AsksFor verb found) r fault is none (λ one asks.
    let its = part (said_in verb found one asks) in (its.0, subst (λ vs. AtMostOne vs (λ o. P o its.0)) (sym same) its.1))

pub drawn_are : (a b c : Text) (rest more : List Text) (x y z : ℕ) → a ∷ b ∷ c ∷ rest ≡ decimal x ∷ decimal y ∷ decimal z ∷ more → AreDraws x y z → AreDrawn a b c (x, y, z)
drawn_are a b c rest more x y z e draws =
    let seed : a ≡ decimal x = cc in
    let count : b ≡ decimal y = cc in
    let lanes : c ≡ decimal z = cc in
    record {
      seed_is = record { low = omega arith; high = draws.0; is = seed };
      count_is = record { low = draws.1.0; high = draws.1.1; is = count };
      lanes_is = record { low = draws.2.0; high = draws.2.1; is = lanes };
    }
