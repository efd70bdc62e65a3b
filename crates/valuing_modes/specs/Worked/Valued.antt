-- A worked valuation of five policies, put down by hand. Day 10956 is 1999-12-31, 18262 is 2020-01-01,
-- 18597 is 2020-12-01 and 18628 is 2021-01-01
use Rattle.std.specs.Prelude.{◌≡◌, ◌++◌, ℕ, true, List, [], ◌∷◌, ℤ, pos, codes, replicate}
use Rattle.valuing_modes.specs.Names.{Command, Now, Dated, Terminal}
use Rattle.policy_types.specs.declared.command.Command.TheVariants.{Issue, Premium, PaidUp, Upgrade}
use Rattle.policy_types.specs.declared.command.Plan.TheVariants.{Endowment}
use Rattle.rate_table.specs.Rates.{Rates}
use Rattle.select_rates.specs.declared.any.AnyTable.TheVariants.{Aggregate}
use Rattle.present_value.specs.Premium.{cap_shape}
use Rattle.present_value.specs.Worked.{five_ages}
use Rattle.valuing_modes.specs.Valuing.{IsValuation}

-- from 2000-01-01 on the rates 0.1, 0.2, 0.25, 0.5 and 1 of the ages 0 to 4, without interest
abbrev pub from_2000 : Dated
from_2000 = record { from_day = pos 10957; table = Aggregate five_ages; bp = 0 }

-- and from 2020-01-02 on a rate of the age 60 alone
abbrev pub from_2020 : Dated
from_2020 = record {
  from_day = pos 18263;
  table = Aggregate (record { first_age = 60; rates = 1000000000 ∷ [] });
  bp = 400;
}

-- an endowment of 1000.00 for three years at age 0, with a premium of 400.00
abbrev pub endowment_on : ℕ → ℤ → Command
endowment_on id day = Issue id day Endowment 0 3 100000 40000

-- Issued on 2020-01-01, on 2020-01-02, on the day before the basis begins, and on the day after the valuation; and
-- once more on 2020-01-01, and made paid up for 300.00 within the year.
abbrev pub five_endowments : List Command
five_endowments = endowment_on 7001 (pos 18262) ∷ endowment_on 7002 (pos 18263) ∷ endowment_on 7003 (pos 10956)
    ∷ endowment_on 7004 (pos 18629) ∷ endowment_on 7005 (pos 18262) ∷ Premium 7005 (pos 18262) 40000 ∷ Upgrade
    ∷ PaidUp 7005 (pos 18597) 30000 ∷ []

-- Valued on 2021-01-01, which is an anniversary of the first and of the last. The reserve of the first is the part 1
-- - 1715/3537 * 1.8, or 450/3537, of its amount; that of the last, without premiums or interest, is its whole amount.
abbrev pub FiveEndowmentsValued : Type 0
FiveEndowmentsValued = IsValuation five_endowments (pos 18628) Now Terminal (from_2000 ∷ from_2020 ∷ []) (λ text.
    text ≡ codes "0,value,2021-01-01,8,5" ++ (10 ∷ []) ++ codes "row,7001,inforce,1,127.22,127.23" ++ (10 ∷ [])
    ++ codes "row,7002,inforce,0,belowtable" ++ (10 ∷ []) ++ codes "row,7003,inforce,0,nobasis" ++ (10 ∷ [])
    ++ codes "row,7004,inforce,0,0.00,0.00" ++ (10 ∷ []) ++ codes "row,7005,paidup,1,300.00,300.00" ++ (10 ∷ [])
    ++ codes "total,427.22,427.23,2" ++ 10 ∷ [])

-- rates of the ages 0 to 130
abbrev pub to_130 : Rates
to_130 = record { first_age = 0; rates = replicate 131 1 }

-- what limits the net premium: whole life a year later, to the table's end, with nineteen premiums, or with fewer if
-- there are fewer years
abbrev pub Caps : Type 0
Caps = (cap_shape to_130 30 ≡ record { age = 31; n = 100; h = 19; matures = true })
    × (cap_shape to_130 115 ≡ record { age = 116; n = 15; h = 15; matures = true })
