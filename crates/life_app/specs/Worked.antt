-- Worked cases of what a run and `state` write, computed from the definitions alone. Day 18262 is 2020-01-01
use Rattle.std.specs.Prelude.{◌≡◌, ◌⊎◌, ◌++◌, ◌<◌, ℕ, List, [], ◌∷◌, None, length, pos, codes}
use Rattle.watcher_set.specs.Evidence.{a_lack}
use Rattle.life_app.specs.Names.{AllZip, AreWords, Mode, Ghosts, Command, Endowment, Reply, Accepted, Refused, Faulted, Blank, Entry, PostLine, Lane, AnsweredLine, AreLinesOf, Stream, WroteLine, BadJournal, NoMemory, books_text, policy_account, AreTrue, TwoDisks, Row, Bounds, Issue, Premium, Alter, Lapse, Reinstate, Claim, Settle, Mature, PaidUp, Upgrade, InForce, Lapsed, Claimed, Matured, Expired, Settled, IsPaidUp, Taken, Unknown, BeforeLast, WrongStatus, TermOver, NothingDue, TooEarly, GraceOver, NotInArrears, TooLate, WrongAmount, NotAReduction, NotMatured, OverSettled, Full, NotUpgraded, Upgraded, IsToldLine, Terminal, run_wording, posting_text, reports_text, trim_text, unpinned_text, unvalued_text, watcher_text, Rose, book, EndsCheckpoint, EndsStateKept}
use Rattle.policy_types.specs.declared.refusal.Refusal.{Refusal}
use Rattle.policy_types.specs.declared.entry.Call.TheVariants.{Post}
use Rattle.policy_types.specs.declared.entry.PinRefusal.TheVariants.{Ahead, Trimmed, PinsFull}
use Rattle.policy_machine.specs.Worked.Cases.{policy_issue}
use Rattle.program_endings.specs.Worked.{output_with}
use Rattle.life_app.specs.Needs.{AreTrusted, Filing, HasDiskFault, HasSecond, With, Without, seen_by}
use Rattle.life_app.specs.TableReserves.{AreOnce, table_reserves}
use Rattle.policy_value.specs.Rows.{IsValuedRow}
use Rattle.life_app.specs.Texts.{AreAlike, IsPlainReply, IsPlainRow, IsPlainWorth, TellsApart}
use Rattle.life_app.specs.Obeys.{EndsUnasked}
use Rattle.policy_machine.specs.Accounts.{ledger_of}

abbrev pub first_premium : Command
first_premium = Premium 7001 (pos 18262) 40000

-- the line of a premium that is refused gives this as the reason
abbrev pub Says : Refusal → List ℕ → Type 0
Says refusal why = posting_text 1 first_premium (Refused refusal) ≡ codes "1,premium,7001,refused," ++ why ++ 10 ∷ []

-- every refusal, with its value if it has one
abbrev pub RefusalTexts : Type 0
RefusalTexts = Says Taken (codes "taken")
    × Says Unknown (codes "unknown")
    × Says (BeforeLast (pos 18262)) (codes "beforelast,2020-01-01")
    × Says (WrongStatus Lapsed) (codes "wrongstatus,lapsed")
    × Says (TermOver (pos 19358)) (codes "termover,2023-01-01")
    × Says NothingDue (codes "nothingdue")
    × Says (TooEarly (pos 20147)) (codes "tooearly,2025-02-28")
    × Says (GraceOver (pos 18262)) (codes "graceover,2020-01-01")
    × Says (NotInArrears (pos 18628)) (codes "notinarrears,2021-01-01")
    × Says (TooLate (pos 19723)) (codes "toolate,2024-01-01")
    × Says (WrongAmount 40000) (codes "wrongamount,400.00")
    × Says (NotAReduction 100000) (codes "notareduction,1000.00")
    × Says (NotMatured (pos 19358)) (codes "notmatured,2023-01-01")
    × Says (OverSettled 5) (codes "oversettled,0.05")
    × Says Full (codes "full,4000000")

abbrev pub StatusTexts : Type 0
StatusTexts = Says (WrongStatus InForce) (codes "wrongstatus,inforce")
    × Says (WrongStatus Lapsed) (codes "wrongstatus,lapsed")
    × Says (WrongStatus Claimed) (codes "wrongstatus,claimed")
    × Says (WrongStatus Matured) (codes "wrongstatus,matured")
    × Says (WrongStatus Expired) (codes "wrongstatus,expired")
    × Says (WrongStatus Settled) (codes "wrongstatus,settled")

-- one posting of each kind, and by each of its answers: accepted, refused, a fault, a refusal of memory
abbrev pub PostingLines : Type 0
PostingLines = (posting_text 1 policy_issue (Accepted 1) ≡ codes "1,issue,7001,accepted,1" ++ 10 ∷ [])
    × (posting_text 8 first_premium (Faulted 3) ≡ codes "8,premium,7001,fault" ++ 10 ∷ [])
    × (posting_text 1 (Alter 7001 (pos 18262) 50000 20000) Blank ≡ codes "1,alter,7001,nomemory" ++ 10 ∷ [])
    × (posting_text 1 (Lapse 7001 (pos 18262)) (Accepted 4000000) ≡ codes "1,lapse,7001,accepted,4000000" ++ 10 ∷ [])
    × (posting_text 1 (Reinstate 7001 (pos 18262) 40000) (Refused Unknown) ≡ codes "1,reinstate,7001,refused,unknown" ++ 10 ∷ [])
    × (posting_text 1 (Claim 7001 (pos 18262)) (Accepted 3) ≡ codes "1,claim,7001,accepted,3" ++ 10 ∷ [])
    × (posting_text 1 (Settle 4294967295 (pos 18262) 1) (Accepted 4) ≡ codes "1,settle,4294967295,accepted,4" ++ 10 ∷ [])
    × (posting_text 1 (Mature 7001 (pos 18262)) (Accepted 5) ≡ codes "1,mature,7001,accepted,5" ++ 10 ∷ [])

-- an upgrade, which has 0 for a policy, a policy made paid up, and each of their answers
abbrev pub UpgradeLines : Type 0
UpgradeLines = (posting_text 1 Upgrade (Accepted 3) ≡ codes "1,upgrade,0,accepted,3" ++ 10 ∷ [])
    × (posting_text 1 Upgrade (Refused (Upgraded 3)) ≡ codes "1,upgrade,0,refused,upgraded,3" ++ 10 ∷ [])
    × (posting_text 1 (PaidUp 7001 (pos 18597) 30000) (Refused NotUpgraded) ≡ codes "1,paidup,7001,refused,notupgraded" ++ 10 ∷ [])
    × (posting_text 1 (PaidUp 7001 (pos 18597) 30000) (Accepted 4) ≡ codes "1,paidup,7001,accepted,4" ++ 10 ∷ [])
    × Says (WrongStatus IsPaidUp) (codes "wrongstatus,paidup")

abbrev pub posting_turn : ℕ → Command → Reply → Entry
posting_turn caller command reply = record { caller = caller; call = Post command; reply = reply }

-- lanes 3 and 5 under the callers 11 and 12: the premium is posted before there is the policy, and again after it
abbrev pub clerks_turns : List Entry
clerks_turns = posting_turn 12 first_premium (Refused Unknown) ∷ posting_turn 11 policy_issue (Accepted 1) ∷ posting_turn 12 first_premium (Accepted 2) ∷ []

abbrev pub clerks_lanes : List Lane
clerks_lanes =
    (record { number = 3; lines = PostLine policy_issue ∷ [] })
    ∷ (record { number = 5; lines = PostLine first_premium ∷ PostLine first_premium ∷ [] }) ∷ []

abbrev pub clerks_answers : List AnsweredLine
clerks_answers =
    (record { clerk = 5; line = PostLine first_premium; first = (0, posting_turn 12 first_premium (Refused Unknown)); rest = [] })
    ∷ (record { clerk = 3; line = PostLine policy_issue; first = (1, posting_turn 11 policy_issue (Accepted 1)); rest = [] })
    ∷ (record { clerk = 5; line = PostLine first_premium; first = (2, posting_turn 12 first_premium (Accepted 2)); rest = [] }) ∷ []

-- the lines of two lanes are in the order of their turns
abbrev pub TwoClerks : Type 0
TwoClerks = AreLinesOf clerks_answers clerks_turns clerks_lanes (11 ∷ 12 ∷ []) []
    × AllZip (IsToldLine run_wording (λ on. IsValuedRow [] on Terminal) [] clerks_turns []) clerks_answers ((codes "5,premium,7001,refused,unknown" ++ 10 ∷ [])
    ∷ (codes "3,issue,7001,accepted,1" ++ 10 ∷ []) ∷ (codes "5,premium,7001,accepted,2" ++ 10 ∷ []) ∷ [])

-- a trim, and why a valuation on 2021-01-01 has no rows
abbrev pub OtherLines : Type 0
OtherLines = (trim_text 1 300 ≡ codes "1,trim,300" ++ 10 ∷ [])
    × (unpinned_text 1 (pos 18628) (Ahead 1) ≡ codes "1,value,2021-01-01,refused,ahead,1" ++ 10 ∷ [])
    × (unpinned_text 1 (pos 18628) (Trimmed 2) ≡ codes "1,value,2021-01-01,refused,trimmed,2" ++ 10 ∷ [])
    × (unpinned_text 8 (pos 18628) PinsFull ≡ codes "8,value,2021-01-01,refused,pinsfull" ++ 10 ∷ [])
    × (unvalued_text 1 (pos 18628) ≡ codes "1,value,2021-01-01,nomemory" ++ 10 ∷ [])

-- the lines of the two watchers of the program after the first issue, of one with the greatest numbers, and of none
abbrev pub WatcherLines : Type 0
WatcherLines = (reports_text ((record { seen = 1; tally = 1 }) ∷ (record { seen = 1; tally = 0 }) ∷ []) ≡ codes "watcher,1,1,1" ++ 10 ∷ codes "watcher,2,1,0" ++ 10 ∷ [])
    × (watcher_text 16 (record { seen = 4000000; tally = 18446744073709551615 }) ≡ codes "watcher,16,4000000,18446744073709551615" ++ 10 ∷ [])
    × (reports_text [] ≡ [])

-- the policy is claimed on 2020-06-01 and settled in part on 2020-07-01, beside another that is issued then
abbrev pub claimed_beside_another : List Command
claimed_beside_another = policy_issue ∷ first_premium ∷ Claim 7001 (pos 18414) ∷ Issue 7 (pos 18444) Endowment 0 3 100000 40000
    ∷ Settle 7001 (pos 18444) 40000 ∷ []

-- all policies, the balances and the number of commands
abbrev pub ClaimedBooks : Type 0
ClaimedBooks = books_text (book claimed_beside_another) (ledger_of claimed_beside_another) (length claimed_beside_another)
    ≡ codes "policy,7001,claimed,endowment,0,3,1000.00,400.00,2020-01-01,1,600.00" ++ 10
    ∷ codes "policy,7,inforce,endowment,0,3,1000.00,400.00,2020-07-01,0,0.00" ++ 10
    ∷ codes "balance,cash,0.00" ++ 10 ∷ codes "balance,premiums,-400.00" ++ 10
    ∷ codes "balance,incurred,1000.00" ++ 10 ∷ codes "balance,payable,-600.00" ++ 10 ∷ codes "count,5" ++ 10 ∷ []

-- one policy's entries, with their numbers among all commands; and a number that no policy has
abbrev pub ClaimedEntries : Type 0
ClaimedEntries = (policy_account 7001 claimed_beside_another
    ≡ codes "entry,1,issue,2020-01-01,endowment,0,3,1000.00,400.00" ++ 10
    ∷ codes "entry,2,premium,2020-01-01,400.00" ++ 10 ∷ codes "entry,3,claim,2020-06-01" ++ 10
    ∷ codes "entry,5,settle,2020-07-01,400.00" ++ 10
    ∷ codes "policy,7001,claimed,endowment,0,3,1000.00,400.00,2020-01-01,1,600.00" ++ 10 ∷ [])
    × (policy_account 7002 claimed_beside_another ≡ codes "unknown,7002" ++ 10 ∷ [])

-- an empty file that stays so, of an honest disk whose count of faults rose so far
abbrev pub filing_with : ℕ → Filing
filing_with faults = record { before = []; after = []; Honest = Unit {0}; faults_before = 0; faults_after = faults }

-- words that are these bytes ask for a mode that sees the second file, or not
abbrev SeesSecond : List (List ℕ) → Type 0
SeesSecond typed = (mode : Mode) × AreWords typed mode × HasSecond (seen_by mode (With (filing_with 0)))

abbrev SeesNone : List (List ℕ) → Type 0
SeesNone typed = (mode : Mode) × AreWords typed mode × (HasSecond (seen_by mode (With (filing_with 0))) → ⊥)

-- `checkpoint` and `state` do, and `state` of one policy doesn't
abbrev pub BothWords : Type 0
BothWords = SeesSecond (codes "checkpoint" ∷ []) × SeesSecond (codes "state" ∷ []) × SeesNone (codes "state" ∷ codes "7001" ∷ [])

-- a fault of the second disk is one where it is seen, and two empty files are trusted
abbrev pub TwoFilings : Type 0
TwoFilings = HasDiskFault Rose (filing_with 0) (With (filing_with 1)) × HasDiskFault ◌<◌ (filing_with 0) (With (filing_with 1))
    × (HasDiskFault Rose (filing_with 0) Without → ⊥) × (HasDiskFault ◌<◌ (filing_with 0) Without → ⊥)
    × AreTrusted (filing_with 0) (With (filing_with 0))

-- over five bytes that are no journal both modes end with that line
abbrev pub BothRefuseHello : {D E : Type 0} → Ghosts D → Ghosts E → Type 0
BothRefuseHello {D} {E} g e = (disks : TwoDisks D E) (output : Stream) → AreTrue g e disks → g.reads disks.old ≡ codes "hello"
    → EndsStateKept g e disks output BadJournal ⊎ EndsCheckpoint g e disks output BadJournal
    → WroteLine output (codes "badjournal,notajournal")

-- if memory to read the arguments was refused, `nomemory` is written and nothing else
abbrev pub NoWordsLine : Type 0
NoWordsLine = (words : List (List ℕ))
    → EndsUnasked {D = Unit {0}} {E = Unit {0}} (tt {0}) (tt {0}) None None words (output_with 0 [] (codes "nomemory" ++ 10 ∷ [])) (Unit {0}) (Unit {0}) (NoMemory a_lack)
    × ((bytes : List ℕ) → EndsUnasked {D = Unit {0}} {E = Unit {0}} (tt {0}) (tt {0}) None None words (output_with 0 [] bytes) (Unit {0}) (Unit {0}) (NoMemory a_lack)
    → bytes ≡ codes "nomemory" ++ 10 ∷ [])

abbrev pub plain_row : Row
plain_row = record { id = 7001; status = InForce; t = 1; worth = Bounds 12722 12723 }

-- replies and rows that the texts distinguish: all refusals of one kind, and two positions
abbrev pub ToldApart : Type 0
ToldApart = IsPlainReply (Accepted 2) × AreAlike (Refused Taken) (Refused Unknown) × (AreAlike (Accepted 2) (Accepted 3) → ⊥)
    × IsPlainRow plain_row × IsPlainWorth plain_row.worth × TellsApart run_wording × AreOnce table_reserves
