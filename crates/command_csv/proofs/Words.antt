-- A word stands for one plan, or for one kind
use Rattle.command_csv.proofs.Names.{◌≡◌, ℕ, List, get_or, refl, ap, sym, ◌∙◌, Plan, Term, Whole, Endowment, Limited, Kind, plan_word, kind_spelling}
use Rattle.std.specs.Prelude.{if◌then◌else◌, ◌==◌}
use Rattle.command_csv.specs.declared.kind.Kind.TheVariants.{Issue, Premium, Alter, Lapse, Reinstate, Claim, Settle, Mature, PaidUp, Upgrade, Value, Trim}

-- the plan whose word begins with this letter
abbrev pub plan_by : ℕ → Plan
plan_by letter = if letter == 116 then Term else if letter == 119 then Whole else if letter == 101 then Endowment else Limited

pub plan_again : (plan : Plan) → plan_by (get_or (plan_word plan) 0 0) ≡ plan
plan_again Term = refl
plan_again Whole = refl
plan_again Endowment = refl
plan_again Limited = refl

pub plan_word_injective : (plan other : Plan) → plan_word plan ≡ plan_word other → plan ≡ other
plan_word_injective plan other e = sym (plan_again plan) ∙ ap (λ (word : List ℕ). plan_by (get_or word 0 0)) e ∙ plan_again other

-- the kind whose word begins with these two letters
abbrev kind_by_letters : ℕ → ℕ → Kind
kind_by_letters first second =
    if first == 105 then Issue else if first == 112 then (if second == 97 then PaidUp else Premium)
    else if first == 97 then Alter else if first == 108 then Lapse
    else if first == 114 then Reinstate else if first == 99 then Claim else if first == 115 then Settle else if first == 109 then Mature
    else if first == 117 then Upgrade else if first == 118 then Value else Trim

-- the kind whose word this may be
abbrev pub kind_by : List ℕ → Kind
kind_by word = kind_by_letters (get_or word 0 0) (get_or word 1 0)

pub kind_again : (kind : Kind) → kind_by (kind_spelling kind) ≡ kind
kind_again Issue = refl
kind_again Premium = refl
kind_again Alter = refl
kind_again Lapse = refl
kind_again Reinstate = refl
kind_again Claim = refl
kind_again Settle = refl
kind_again Mature = refl
kind_again PaidUp = refl
kind_again Upgrade = refl
kind_again Value = refl
kind_again Trim = refl

pub kind_word_injective : (kind other : Kind) → kind_spelling kind ≡ kind_spelling other → kind ≡ other
kind_word_injective kind other e = sym (kind_again kind) ∙ ap kind_by e ∙ kind_again other
