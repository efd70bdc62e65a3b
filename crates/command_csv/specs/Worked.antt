-- Scripts, and how they are read: each kind of line as a script has it, and some first faults
use Rattle.std.specs.Prelude.{ℕ, List, [], ◌∷◌, ◌++◌, pos, codes, replicate}
use Rattle.command_csv.specs.Names.{flat_map, Now, Position, Line, Post, Value, Trim, Issue, Premium, Alter, Lapse, Reinstate, Claim, Settle, Mature, PaidUp, Upgrade}
use Rattle.policy_types.specs.declared.command.Plan.TheVariants.{Endowment}
use Rattle.command_csv.specs.Reads.{Reads, IsFirstScriptFault}
use Rattle.command_csv.specs.inside.Words.{lane_of}

-- the script is read as these lines, all of lane 1
abbrev pub SaysLines : List ℕ → List Line → Type 0
SaysLines script lines = Reads script (lane_of 1 lines)

-- 2020-01-01 is day 18262
abbrev pub IssueLine : Type 0
IssueLine = SaysLines (codes "1,issue,7001,2020-01-01,endowment,0,3,1000.00,400.00\n") (Post (Issue 7001 (pos 18262) Endowment 0 3 100000 40000) ∷ [])

abbrev pub PremiumLine : Type 0
PremiumLine = SaysLines (codes "1,premium,7001,2021-01-01,400.00\n") (Post (Premium 7001 (pos 18628) 40000) ∷ [])

abbrev pub AlterLine : Type 0
AlterLine = SaysLines (codes "1,alter,7001,2021-01-02,500.00,200.00\n") (Post (Alter 7001 (pos 18629) 50000 20000) ∷ [])

abbrev pub LapseLine : Type 0
LapseLine = SaysLines (codes "1,lapse,7001,2022-02-02\n") (Post (Lapse 7001 (pos 19025)) ∷ [])

abbrev pub ReinstateLine : Type 0
ReinstateLine = SaysLines (codes "1,reinstate,7001,2022-03-01,400000000.00\n") (Post (Reinstate 7001 (pos 19052) 40000000000) ∷ [])

abbrev pub ClaimLine : Type 0
ClaimLine = SaysLines (codes "1,claim,7001,2022-12-31\n") (Post (Claim 7001 (pos 19357)) ∷ [])

abbrev pub SettleLine : Type 0
SettleLine = SaysLines (codes "1,settle,7001,2023-01-15,0.01\n") (Post (Settle 7001 (pos 19372) 1) ∷ [])

abbrev pub MatureLine : Type 0
MatureLine = SaysLines (codes "1,mature,4294967295,2199-12-31") (Post (Mature 4294967295 (pos 84005)) ∷ [])

abbrev pub PaidUpLine : Type 0
PaidUpLine = SaysLines (codes "1,paidup,7001,2020-12-01,300.00\n") (Post (PaidUp 7001 (pos 18597) 30000) ∷ [])

abbrev pub UpgradeLine : Type 0
UpgradeLine = SaysLines (codes "1,upgrade\n") (Post Upgrade ∷ [])

abbrev pub ValueLine : Type 0
ValueLine = SaysLines (codes "1,value,2020-01-01,now,64\n") (Value (pos 18262) Now 64 ∷ [])

-- a position may be 0, before all commands
abbrev pub ValueAtLine : Type 0
ValueAtLine = SaysLines (codes "1,value,2199-12-31,0,1\n") (Value (pos 84005) (Position 0) 1 ∷ [])

abbrev pub TrimLine : Type 0
TrimLine = SaysLines (codes "1,trim\n") (Trim ∷ [])

-- a byte order mark, quotes, an empty line, and rows that end with a carriage return, a line feed, or both
abbrev pub OddScript : Type 0
OddScript = SaysLines (239 ∷ 187 ∷ 191 ∷ codes "\"1\",\"lapse\",7001,2022-02-02\r\n\r\n1,claim,7001,\"2022-12-31\"\r1,lapse,7002,2022-02-02\n")
    (Post (Lapse 7001 (pos 19025)) ∷ Post (Claim 7001 (pos 19357)) ∷ Post (Lapse 7002 (pos 19025)) ∷ [])

-- lines of three lanes, mixed, and those of the last lane first: the lanes are in the order of their numbers, and
-- each has its lines in order
abbrev pub ThreeClerks : Type 0
ThreeClerks = Reads (codes "8,trim\n3,lapse,7001,2022-02-02\n1,claim,7002,2022-12-31\n3,trim\n8,value,2020-01-01,now,64\n1,lapse,7003,2022-02-02\n")
    (record { number = 1; lines = Post (Claim 7002 (pos 19357)) ∷ Post (Lapse 7003 (pos 19025)) ∷ [] }
    ∷ record { number = 3; lines = Post (Lapse 7001 (pos 19025)) ∷ Trim ∷ [] }
    ∷ record { number = 8; lines = Trim ∷ Value (pos 18262) Now 64 ∷ [] } ∷ [])

-- there is no lane 9
abbrev pub NoClerk : Type 0
NoClerk = IsFirstScriptFault (codes "9,lapse,1,2020-01-01") 1 1

-- nor a lane 0
abbrev pub NoClerkBefore : Type 0
NoClerkBefore = IsFirstScriptFault (codes "8,trim\n0,trim") 2 1

-- the lane is checked before the kind
abbrev pub NoClerkNorKind : Type 0
NoClerkNorKind = IsFirstScriptFault (codes "9,lapsed") 1 1

-- empty lines aren't counted, and the second row has no day
abbrev pub NoDay : Type 0
NoDay = IsFirstScriptFault (codes "\n1,lapse,1,2020-01-01\n\n1,lapse,1\n") 2 4

-- a fifth field is one too many
abbrev pub OneTooMany : Type 0
OneTooMany = IsFirstScriptFault (codes "1,lapse,1,2020-01-01,\n") 1 5

-- a trim has no third field, not even an empty one
abbrev pub TrimOfSomething : Type 0
TrimOfSomething = IsFirstScriptFault (codes "1,trim,") 1 3

-- the number of workers is missing
abbrev pub NoWorkers : Type 0
NoWorkers = IsFirstScriptFault (codes "1,value,2021-01-01,now") 1 5

-- sixteen valuations, half of them in lane 1 and half in lane 8
abbrev pub sixteen : List ℕ
sixteen = flat_map (λ row. row) (replicate 8 (codes "1,value,2020-01-01,now,1\n") ++ replicate 8 (codes "8,value,2020-01-01,now,1\n"))

-- a seventeenth valuation doesn't fit at its kind, in whichever lane it is
abbrev pub OneValuationTooMany : Type 0
OneValuationTooMany = IsFirstScriptFault (sixteen ++ codes "5,value,2020-01-01,now,1\n") 17 2

-- except in a lane that doesn't exist, where the lane's number is what doesn't fit
abbrev pub OneTooManyOfNoClerk : Type 0
OneTooManyOfNoClerk = IsFirstScriptFault (sixteen ++ codes "9,value,2020-01-01,now,1\n") 17 1
