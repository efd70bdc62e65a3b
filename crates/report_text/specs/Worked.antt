-- Small valuations, computed outside of this repository
use Rattle.std.specs.Prelude.{◌≡◌, [], ◌∷◌, ◌++◌, codes, pos}
use Rattle.policy_types.specs.declared.policy.Status.TheVariants.{InForce, Lapsed, PaidUp}
use Rattle.report_text.specs.Names.{PastTable, Short, Enough, Close, Terminal, Mean, Deficiency, Row, Bounds, Both, Word}
use Rattle.report_text.specs.Block.{row_text, total_text, block_text}

-- an endowment after a year
abbrev pub valued : Row
valued = record { id = 7001; status = InForce; t = 1; worth = Bounds 12722 12723 }

-- a policy whose cover goes past the end of the table
abbrev pub past_the_table : Row
past_the_table = record { id = 7002; status = InForce; t = 0; worth = Word PastTable }

-- a lapsed policy
abbrev pub lapsed : Row
lapsed = record { id = 7003; status = Lapsed; t = 0; worth = Bounds 0 0 }

-- paid-up policies of 300.00 after a year: an endowment without interest, and a term at 5 percent, whose exact value is
-- 49200/441
abbrev pub PaidUpRows : Type 0
PaidUpRows = (row_text (record { id = 7001; status = PaidUp; t = 1; worth = Bounds 30000 30000 }) ≡ codes "row,7001,paidup,1,300.00,300.00" ++ 10 ∷ [])
    × (row_text (record { id = 7001; status = PaidUp; t = 1; worth = Bounds 11156 11157 }) ≡ codes "row,7001,paidup,1,111.56,111.57" ++ 10 ∷ [])

-- the row of each
abbrev pub WorkedRows : Type 0
WorkedRows = (row_text valued ≡ codes "row,7001,inforce,1,127.22,127.23" ++ 10 ∷ [])
    × (row_text past_the_table ≡ codes "row,7002,inforce,0,pasttable" ++ 10 ∷ [])
    × (row_text lapsed ≡ codes "row,7003,lapsed,0,0.00,0.00" ++ 10 ∷ [])

-- totals of some of them: bounds of 0 aren't the same as no bounds
abbrev pub WorkedTotals : Type 0
WorkedTotals = (total_text Terminal (past_the_table ∷ []) ≡ codes "total,0.00,0.00,1" ++ 10 ∷ [])
    × (total_text Terminal (lapsed ∷ []) ≡ codes "total,0.00,0.00,0" ++ 10 ∷ [])
    × (total_text Terminal (valued ∷ past_the_table ∷ valued ∷ []) ≡ codes "total,254.44,254.46,1" ++ 10 ∷ [])

-- the valuation of a journal at its beginning, on 2021-01-01
abbrev pub NoPolicies : Type 0
NoPolicies = block_text 0 (pos 18628) 0 Terminal []
    ≡ codes "0,value,2021-01-01,0,0" ++ (10 ∷ []) ++ codes "total,0.00,0.00,0" ++ 10 ∷ []

-- lane 3 values two policies at position 5
abbrev pub TwoPolicies : Type 0
TwoPolicies = block_text 3 (pos 18628) 5 Terminal (valued ∷ past_the_table ∷ [])
    ≡ codes "3,value,2021-01-01,5,2" ++ (10 ∷ []) ++ codes "row,7001,inforce,1,127.22,127.23" ++ (10 ∷ [])
    ++ codes "row,7002,inforce,0,pasttable" ++ (10 ∷ []) ++ codes "total,127.22,127.23,1" ++ 10 ∷ []

-- the endowment after a year, whose premium is 400.00 or 500.00, and one for which the bounds don't decide
abbrev pub short_of : Row
short_of = record { id = 7001; status = InForce; t = 1; worth = Both 12722 12723 28000 28000 Short }

abbrev pub enough_for : Row
enough_for = record { id = 7001; status = InForce; t = 1; worth = Both 12722 12723 12722 12723 Enough }

abbrev pub close_to : Row
close_to = record { id = 7004; status = InForce; t = 1; worth = Both 1 2 1 3 Close }

abbrev pub DeficiencyRows : Type 0
DeficiencyRows = (row_text short_of ≡ codes "row,7001,inforce,1,127.22,127.23,280.00,280.00,short" ++ 10 ∷ [])
    × (row_text enough_for ≡ codes "row,7001,inforce,1,127.22,127.23,127.22,127.23,enough" ++ 10 ∷ [])
    × (row_text close_to ≡ codes "row,7004,inforce,1,0.01,0.02,0.01,0.03,close" ++ 10 ∷ [])

-- totals by the measure of deficiency, to which rows without bounds add nothing
abbrev pub DeficiencyTotals : Type 0
DeficiencyTotals = (total_text Deficiency (short_of ∷ []) ≡ codes "total,127.22,127.23,280.00,280.00,0" ++ 10 ∷ [])
    × (total_text Deficiency (past_the_table ∷ []) ≡ codes "total,0.00,0.00,0.00,0.00,1" ++ 10 ∷ [])
    × (total_text Mean (past_the_table ∷ []) ≡ codes "total,0.00,0.00,1" ++ 10 ∷ [])
    × (total_text Deficiency (short_of ∷ close_to ∷ []) ≡ codes "total,127.23,127.25,280.01,280.03,0" ++ 10 ∷ [])

-- a mean reserve at a year's end, and a minimum reserve
abbrev pub BlocksByMeasure : Type 0
BlocksByMeasure = (block_text 0 (pos 18627) 1 Mean (record { id = 7001; status = InForce; t = 0; worth = Bounds 17086 17087 } ∷ [])
    ≡ codes "0,value,2020-12-31,1,1,mean" ++ (10 ∷ []) ++ codes "row,7001,inforce,0,170.86,170.87" ++ (10 ∷ [])
    ++ codes "total,170.86,170.87,0" ++ 10 ∷ [])
    × (block_text 0 (pos 18628) 1 Deficiency (short_of ∷ [])
    ≡ codes "0,value,2021-01-01,1,1,deficiency" ++ (10 ∷ [])
    ++ codes "row,7001,inforce,1,127.22,127.23,280.00,280.00,short" ++ (10 ∷ [])
    ++ codes "total,127.22,127.23,280.00,280.00,0" ++ 10 ∷ [])
