-- Two lanes whose turns alternate, with their disk: a premium is refused, two policies are valued by rates while the
-- other lane posts, and after that lane's second premium a sync fails; the run ends, and the file is opened again
use Rattle.std.specs.Prelude.{ℕ, List, [], ◌∷◌, ◌++◌, codes, pos}
use Rattle.life_app.specs.WorkedRun.Names.{Reads, lane_of, AnsweredLine, AreLinesOf, hand_issue, hand_premium, IsLegal, Opening, opened_on, Command, Endowment, Now, Entry, Reply, Accepted, Refused, Faulted, Pinned, Policies, Unpinned, Policy, Lane, HaveAFault, FileCall, file_reads, Opens, Stream, issued, Issue, Premium, TooEarly, WrongAmount, IsRunOf, PostLine, Value, AreAllHeld, AreHeld, IsPromised, WasFaulted, table_reserves, run_wording, DiskFault}
use Rattle.policy_machine.specs.Merge.{IsMerge}
use Rattle.policy_types.specs.declared.entry.Call.{Call}
use Rattle.policy_types.specs.declared.entry.Call.TheVariants.{Post, Pin, Read, Unpin}
use Rattle.life_app.specs.WorkedRun.Calls.{CalledDisk, called, called_disk, fails, issuing, looks, posts, stages, untorn}
use Rattle.life_app.specs.WorkedRun.Promise.{output_of, two_auditors}
use Rattle.life_app.specs.WorkedRun.Told.{two_bases}

-- another policy of the next day, its premium, and one that is a cent short
abbrev pub other_issue : Command
other_issue = Issue 7002 (pos 18263) Endowment 0 3 100000 40000

abbrev pub other_premium : Command
other_premium = Premium 7002 (pos 18263) 40000

abbrev pub short_premium : Command
short_premium = Premium 7001 (pos 18262) 39999

-- what the script holds, and its lanes
abbrev pub lanes_script : List ℕ
lanes_script = codes "1,premium,7001,2020-01-01,399.99\n2,premium,7001,2020-01-01,400.00\n1,value,2021-01-01,now,1\n2,premium,7002,2020-01-02,400.00\n"

abbrev pub typed_lanes : List Lane
typed_lanes =
    (record { number = 1; lines = PostLine short_premium ∷ Value (pos 18628) Now 1 ∷ [] })
    ∷ (record { number = 2; lines = PostLine hand_premium ∷ PostLine other_premium ∷ [] }) ∷ []

abbrev pub both_issues : List Command
both_issues = hand_issue ∷ other_issue ∷ []

abbrev pub lanes_opening : Opening
lanes_opening = opened_on both_issues 0

abbrev pub unpaid_policies : List Policy
unpaid_policies = issued 7001 (pos 18262) Endowment 0 3 100000 40000 ∷ issued 7002 (pos 18263) Endowment 0 3 100000 40000 ∷ []

-- the lanes' turns, under the callers 11 and 12
abbrev pub by_caller : ℕ → Call → Reply → Entry
by_caller caller call reply = record { caller = caller; call = call; reply = reply }

abbrev pub refused_turn : Entry
refused_turn = by_caller 11 (Post short_premium) (Refused (WrongAmount 40000))

abbrev pub lanes_pin : Entry
lanes_pin = by_caller 11 Pin (Pinned 2 2)

abbrev pub paid_turn : Entry
paid_turn = by_caller 12 (Post hand_premium) (Accepted 3)

abbrev pub rows_turn : Entry
rows_turn = by_caller 11 (Read 1 0) (Policies unpaid_policies)

abbrev pub fault_turn : Entry
fault_turn = by_caller 12 (Post other_premium) (Faulted 1)

abbrev pub given_up_turn : Entry
given_up_turn = by_caller 11 (Unpin 1) Unpinned

abbrev pub lanes_turns : List Entry
lanes_turns = refused_turn ∷ lanes_pin ∷ paid_turn ∷ rows_turn ∷ fault_turn ∷ given_up_turn ∷ []

-- the script reads as the lanes, and the turns are one legal history of them
abbrev pub LegalLanes : Type 0
LegalLanes = Reads lanes_script typed_lanes × IsLegal lanes_opening lanes_turns × IsMerge lanes_turns typed_lanes (11 ∷ 12 ∷ []) []

abbrev pub lanes_answers : List AnsweredLine
lanes_answers =
    (record { clerk = 1; line = PostLine short_premium; first = (0, refused_turn); rest = [] })
    ∷ (record { clerk = 1; line = Value (pos 18628) Now 1; first = (1, lanes_pin); rest = (3, rows_turn) ∷ (5, given_up_turn) ∷ [] })
    ∷ (record { clerk = 2; line = PostLine hand_premium; first = (2, paid_turn); rest = [] })
    ∷ (record { clerk = 2; line = PostLine other_premium; first = (4, fault_turn); rest = [] }) ∷ []

-- The valuation is of the two policies before any premium: one is valued by the rates from 2000 on; by those from
-- 2020 on the other has no value, since they lack its age. And so many premiums are added up.
abbrev pub lanes_text : List ℕ
lanes_text = codes "1,premium,7001,refused,wrongamount,400.00" ++ 10 ∷ codes "1,value,2021-01-01,2,2" ++ 10
    ∷ codes "row,7001,inforce,1,127.22,127.23" ++ 10 ∷ codes "row,7002,inforce,0,belowtable" ++ 10 ∷ codes "total,127.22,127.23,1" ++ 10
    ∷ codes "2,premium,7001,accepted,3" ++ 10 ∷ codes "2,premium,7002,fault" ++ 10
    ∷ codes "watcher,1,1,1" ++ 10 ∷ codes "watcher,2,1,40000" ++ 10 ∷ []

-- The file holds both issues. It is read, the one premium is posted, and the sync after the other's gate fails.
abbrev pub lanes_disk : CalledDisk
lanes_disk = called_disk (file_reads [] untorn (posts 1 other_issue issuing)) []

abbrev pub paid_calls : List FileCall
paid_calls = posts 2 hand_premium (looks 2 lanes_disk.first)

abbrev pub fault_disk : CalledDisk
fault_disk = called_disk lanes_disk.first (fails 3 other_premium paid_calls)

-- all was written by the disk's last moment
abbrev pub output_by : CalledDisk → List ℕ → Stream
output_by disk text = record (output_of text) { pieces_after = (record { bytes = text; since = called.clock disk }) ∷ [] }

-- the run ends with 8 for the fault, as promised
abbrev pub PromisedLanes : Type 0
PromisedLanes = AreLinesOf lanes_answers lanes_turns typed_lanes (11 ∷ 12 ∷ []) []
    × IsRunOf called lanes_disk fault_disk typed_lanes two_bases two_auditors (output_by fault_disk lanes_text) DiskFault
    × IsPromised called Opens run_wording table_reserves lanes_disk fault_disk typed_lanes two_bases two_auditors
    (output_by fault_disk lanes_text) 8

-- The disk failed in a posting when the one premium was accepted. So the file that the run leaves opens to both
-- issues and that premium, perhaps with the other premium: its gate may be closed or open.
abbrev pub held_commands : List Command
held_commands = both_issues ++ hand_premium ∷ []

abbrev pub left_commands : List Command
left_commands = both_issues ++ hand_premium ∷ other_premium ∷ []

abbrev pub shut_file : List ℕ
shut_file = file_reads lanes_disk.first untorn (stages 3 other_premium paid_calls)

abbrev pub open_disk : CalledDisk
open_disk = called_disk (called.reads fault_disk) []

abbrev pub LeftLanes : Type 0
LeftLanes = HaveAFault lanes_turns × WasFaulted lanes_turns (hand_premium ∷ []) other_premium
    × called.may_leave fault_disk shut_file × Opens shut_file held_commands × AreAllHeld lanes_opening lanes_turns held_commands
    × called.may_leave fault_disk open_disk.first × Opens open_disk.first left_commands × AreHeld lanes_opening lanes_turns left_commands

-- The next run goes on from there: the other premium is accepted, or, if it is there already, is taken as that of the
-- next year; and a run that reports so is as promised, too.
abbrev pub again_turn : Entry
again_turn = by_caller 12 (Post other_premium) (Accepted 4)

abbrev pub late_turn : Entry
late_turn = by_caller 12 (Post other_premium) (Refused (TooEarly (pos 18629)))

abbrev pub late_lanes : List Lane
late_lanes = lane_of 2 (PostLine other_premium ∷ [])

abbrev pub late_text : List ℕ
late_text = codes "2,premium,7002,refused,tooearly,2021-01-02" ++ 10 ∷ []

abbrev pub looked_again : CalledDisk
looked_again = called_disk open_disk.first (looks 4 open_disk.first)

abbrev pub ReopenedLanes : Type 0
ReopenedLanes = IsLegal (opened_on held_commands 0) (again_turn ∷ [])
    × IsPromised called Opens run_wording table_reserves open_disk looked_again late_lanes [] []
    (output_by looked_again late_text) 0
