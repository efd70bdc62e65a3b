-- What may follow in a row from a field on
use Rattle.std.specs.Prelude.{◌≡◌, ℕ, suc, ◌<◌, List, [], ◌∷◌, take, codes, decimal, ⊤}
use Rattle.command_csv.specs.Names.{Plan, IsId, IsCommandDay, IsAmount, IsReinstatement, IsIssueAge, AreYears, day_text, cents_text, plan_word}
use Rattle.command_csv.specs.declared.kind.Kind.{Kind}
use Rattle.command_csv.specs.declared.kind.Kind.TheVariants.{Issue, Premium, Alter, Lapse, Reinstate, Claim, Settle, Mature, PaidUp, Upgrade, Value, Trim}
use Rattle.command_csv.specs.Reads.{most_valuations}
use Rattle.command_csv.specs.inside.Words.{IsClerk, IsPosition, AreWorkers, at_text}

-- nothing
abbrev pub Ends : List (List ℕ) → Type 0
Ends fields = fields ≡ []

-- a field that is the text of what fits, and then what may follow it
pub record Then {X : Type 0} (Fits : X → Type 0) (text_of : X → List ℕ) (More : X → List (List ℕ) → Type 0) (fields : List (List ℕ)) : Type 0 where
  pub value : X
  pub fits : Fits value
  pub rest : List (List ℕ)
  pub spelled : fields ≡ text_of value ∷ rest
  pub more : More value rest

abbrev pub Amount : (List (List ℕ) → Type 0) → List (List ℕ) → Type 0
Amount More = Then IsAmount cents_text (λ cents. More)

abbrev pub Reinstatement : List (List ℕ) → Type 0
Reinstatement = Then IsReinstatement cents_text (λ cents. Ends)

-- the number of a policy, and a day
abbrev pub PolicyAndDay : (List (List ℕ) → Type 0) → List (List ℕ) → Type 0
PolicyAndDay More = Then IsId decimal (λ id. Then IsCommandDay day_text (λ day. More))

-- what an issue holds after the day: the years rest on the plan and the age
abbrev pub YearsOn : Plan → ℕ → List (List ℕ) → Type 0
YearsOn plan age = Then (AreYears plan age) decimal (λ years. Amount (Amount Ends))

abbrev pub AgeOn : Plan → List (List ℕ) → Type 0
AgeOn plan = Then IsIssueAge decimal (λ age. YearsOn plan age)

abbrev pub PlanOn : List (List ℕ) → Type 0
PlanOn = Then (λ plan. ⊤) plan_word AgeOn

-- what a valuation holds
abbrev pub WorkersOn : List (List ℕ) → Type 0
WorkersOn = Then AreWorkers decimal (λ workers. Ends)

abbrev pub PositionOn : List (List ℕ) → Type 0
PositionOn = Then IsPosition at_text (λ at. WorkersOn)

abbrev pub ValuationOn : List (List ℕ) → Type 0
ValuationOn = Then IsCommandDay day_text (λ on. PositionOn)

-- the word of a kind
abbrev pub kind_spelling : Kind → List ℕ
kind_spelling Issue = codes "issue"
kind_spelling Premium = codes "premium"
kind_spelling Alter = codes "alter"
kind_spelling Lapse = codes "lapse"
kind_spelling Reinstate = codes "reinstate"
kind_spelling Claim = codes "claim"
kind_spelling Settle = codes "settle"
kind_spelling Mature = codes "mature"
kind_spelling PaidUp = codes "paidup"
kind_spelling Upgrade = codes "upgrade"
kind_spelling Value = codes "value"
kind_spelling Trim = codes "trim"

-- what follows the word of a kind
abbrev pub form_of : Kind → List (List ℕ) → Type 0
form_of Issue = PolicyAndDay PlanOn
form_of Premium = PolicyAndDay (Amount Ends)
form_of Alter = PolicyAndDay (Amount (Amount Ends))
form_of Lapse = PolicyAndDay Ends
form_of Reinstate = PolicyAndDay Reinstatement
form_of Claim = PolicyAndDay Ends
form_of Settle = PolicyAndDay (Amount Ends)
form_of Mature = PolicyAndDay Ends
form_of PaidUp = PolicyAndDay (Amount Ends)
form_of Upgrade = Ends
form_of Value = ValuationOn
form_of Trim = Ends

-- a line of the kind may stand after so many valuations
abbrev pub KindMayStandBehind : ℕ → Kind → Type 0
KindMayStandBehind valued Value = valued < most_valuations
KindMayStandBehind valued _ = ⊤

-- a kind that may, and what follows its word
abbrev pub KindForm : ℕ → List (List ℕ) → Type 0
KindForm valued = Then (KindMayStandBehind valued) kind_spelling form_of

-- a row after so many valuations
abbrev pub RowForm : ℕ → List (List ℕ) → Type 0
RowForm valued = Then IsClerk decimal (λ clerk. KindForm valued)

-- the first fields, up to this place, are those of some list of the form
pub record FitsIn (Form : List (List ℕ) → Type 0) (fields : List (List ℕ)) (place : ℕ) : Type 0 where
  pub whole : List (List ℕ)
  pub right : Form whole
  pub same : take place fields ≡ take place whole

-- so many fields fit, and one more don't
pub record StopsAfter (Form : List (List ℕ) → Type 0) (fields : List (List ℕ)) (n : ℕ) : Type 0 where
  pub before : FitsIn Form fields n
  pub bad : ¬ FitsIn Form fields (suc n)
