-- Worked cases of endings, lines and replies. What was written is compared with what the lines have to be, byte by byte
use Rattle.std.specs.Prelude.{◌+◌, ◌≡◌, ℕ, List, [], ◌∷◌, ◌++◌, Option, Some, None, codes, pos}
use Rattle.watcher_set.specs.Evidence.{a_lack}
use Rattle.program_endings.specs.Names.{Ghosts, Reply, Accepted, Refused, Faulted, Pinned, Blank, Entry, NotAJournal, BadRecord}
use Rattle.policy_types.specs.declared.command.Command.TheVariants.{Lapse}
use Rattle.policy_types.specs.declared.entry.Call.TheVariants.{Post, Pin}
use Rattle.policy_types.specs.declared.refusal.Refusal.TheVariants.{Unknown}
use Rattle.policy_machine.specs.History.{IsLegal, opened_on}
use Rattle.policy_machine.specs.Worked.Cases.{posting, premium_on, unpaid}
use Rattle.policy_machine.specs.Worked.Pins.{second_issue}
use Rattle.basis_shelf.specs.declared.fault.BasisWord.TheVariants.{AgeGap}
use Rattle.program_endings.specs.declared.ending.Ending.TheVariants.{Done, Usage, BadScript, BadBasis as BadBasisFile, BadJournal, ReadFault, WriteFault, DiskFault, NoMemory, Ahead}
use Rattle.program_endings.specs.Status.{status_of}
use Rattle.program_endings.specs.Refusals.{EndsNoOffice, SaysWhy}
use Rattle.program_endings.specs.Replies.{AreAnswered, ArePins, HaveAFault, LackMemory}
use Rattle.program_endings.specs.WithoutBasis.{EndsNoBasis, SaysBadFile}
use Rattle.program_endings.specs.Writing.{GaveAll, Input, Shelving, Stream, WroteLine, WroteNothing, WrotePart}

-- no status is 1, and each ending has its own
abbrev pub StatusesOfEndings : Type 0
StatusesOfEndings = (status_of Done ≡ 0) × (status_of Usage ≡ 2) × (status_of BadScript ≡ 3) × (status_of BadBasisFile ≡ 4)
    × (status_of BadJournal ≡ 5) × (status_of ReadFault ≡ 6) × (status_of WriteFault ≡ 7) × (status_of DiskFault ≡ 8)
    × (status_of (NoMemory a_lack) ≡ 9) × (status_of Ahead ≡ 10)

-- an output that held this, and then that, with so many faults in between
abbrev pub output_with : ℕ → List ℕ → List ℕ → Stream
output_with faults before after = record {
  faults_before = 3;
  faults_after = 3 + faults;
  before = Some before;
  after = Some after;
  pieces_before = [];
  pieces_after = [];
}

-- a line is written whole, with its line feed, after what was written before; without a fault no less is enough
abbrev pub LinesAreWhole : Type 0
LinesAreWhole = WroteLine (output_with 0 (codes "a") (codes "ausage" ++ 10 ∷ [])) (codes "usage")
    × (WroteLine (output_with 0 (codes "a") (codes "ausage")) (codes "usage") → ⊥)
    × WroteLine (output_with 1 (codes "a") (codes "aus")) (codes "usage")
    × (WroteLine (output_with 1 (codes "a") (codes "aux")) (codes "usage") → ⊥)
    × WrotePart (output_with 1 (codes "a") (codes "a")) (codes "b")
    × (WrotePart (output_with 1 (codes "a") (codes "ab")) (codes "b") → ⊥)
    × WroteNothing (output_with 0 (codes "a") (codes "a")) (codes "b")
    × (WroteNothing (output_with 0 (codes "a") (codes "ab")) (codes "b") → ⊥)

-- the lines of two refused journals and of a bad basis
abbrev pub LinesOfRefusals : Type 0
LinesOfRefusals = SaysWhy NotAJournal (output_with 0 [] (codes "badjournal,notajournal" ++ 10 ∷ []))
    × SaysWhy (BadRecord 4000000) (output_with 0 [] (codes "badjournal,badrecord,4000000" ++ 10 ∷ []))
    × (SaysWhy (BadRecord 17) (output_with 0 [] (codes "badjournal,badrecord,18" ++ 10 ∷ [])) → ⊥)
    × SaysBadFile (record { name = codes "q.xml"; place = 44; word = AgeGap })
    (output_with 0 [] (codes "badbasis,q.xml,44,agegap" ++ 10 ∷ [])) 4

-- a shelf that is said to have no file of this name, with so many faults in between
abbrev pub bare_shelf : ℕ → Shelving
bare_shelf faults = record { faults_before = 3; faults_after = 3 + faults; Agrees = λ files. files (codes "b.csv") ≡ None }

-- the absent file is named, at the place 0; a fault is reported only if the shelf's count rose
abbrev pub WithoutABasis : Type 0
WithoutABasis = EndsNoBasis (codes "b.csv") (bare_shelf 0) (output_with 0 [] (codes "badbasis,b.csv,0,absent" ++ 10 ∷ [])) BadBasisFile
    × (EndsNoBasis (codes "b.csv") (bare_shelf 0) (output_with 0 [] (codes "badbasis,b.csv,1,absent" ++ 10 ∷ [])) BadBasisFile → ⊥)
    × EndsNoBasis (codes "b.csv") (bare_shelf 1) (output_with 0 [] (codes "readfault" ++ 10 ∷ [])) ReadFault
    × (EndsNoBasis (codes "b.csv") (bare_shelf 0) (output_with 0 [] (codes "readfault" ++ 10 ∷ [])) ReadFault → ⊥)

-- over any disk: five bytes that are no journal are refused for that, and not for a record
abbrev pub RefusesHello : {D : Type 0} → Ghosts D → Type 0
RefusesHello {D} g = (old new : D) (output : Stream) → g.honest new → g.reads old ≡ codes "hello"
    → EndsNoOffice g old new output BadJournal → WroteLine output (codes "badjournal,notajournal")

-- an input of four bytes, two of which are given and then the end
abbrev pub input_of_two : Option (List ℕ) → List ℕ → Input
input_of_two left given = record {
  faults_before = 0;
  faults_after = 0;
  left_before = left;
  left_after = Some [];
  given_before = codes "ab";
  given_after = given;
  Ended = Unit {0};
}

-- what is said to be left is just what was given
abbrev pub GivenAndLeft : Type 0
GivenAndLeft = GaveAll (input_of_two (Some (codes "cd")) (codes "abcd")) (codes "cd")
    × (GaveAll (input_of_two (Some (codes "cde")) (codes "abcd")) (codes "cd") → ⊥)
    × GaveAll (input_of_two None (codes "abcd")) (codes "cd")
    × (GaveAll (input_of_two None (codes "abc")) (codes "cd") → ⊥)

abbrev pub lapse_turn : Reply → Entry
lapse_turn reply = record { caller = 1; call = Post (Lapse 7001 (pos 18262)); reply = reply }

abbrev pub pinned_turn : Entry
pinned_turn = record { caller = 1; call = Pin; reply = Pinned 5 2 }

-- a refused posting is answered; one that faulted, or was refused memory, isn't
abbrev pub AnsweredOrNot : Type 0
AnsweredOrNot = AreAnswered (lapse_turn (Accepted 6) ∷ lapse_turn (Refused Unknown) ∷ pinned_turn ∷ []) []
    × (AreAnswered (pinned_turn ∷ []) (0 ∷ []) → ⊥)
    × (AreAnswered (pinned_turn ∷ lapse_turn Blank ∷ []) [] → ⊥)
    × (AreAnswered (lapse_turn (Faulted 4) ∷ pinned_turn ∷ []) [] → ⊥)
    × ArePins (lapse_turn (Accepted 6) ∷ pinned_turn ∷ []) (1 ∷ [])
    × (ArePins (lapse_turn (Accepted 6) ∷ pinned_turn ∷ []) (0 ∷ []) → ⊥)

-- a posting or a valuation without memory, and a posting that faulted
abbrev pub WantsAndFaults : Type 0
WantsAndFaults = LackMemory (pinned_turn ∷ []) (0 ∷ [])
    × LackMemory (lapse_turn Blank ∷ []) []
    × (LackMemory (pinned_turn ∷ []) [] → ⊥)
    × (LackMemory (lapse_turn Blank ∷ lapse_turn (Faulted 4) ∷ []) [] → ⊥)
    × HaveAFault (pinned_turn ∷ lapse_turn (Faulted 4) ∷ [])
    × (HaveAFault (pinned_turn ∷ []) → ⊥)

-- an office is opened on one issue: another is the second command
abbrev pub LegalIssue : Type 0
LegalIssue = IsLegal (opened_on unpaid 0) (posting second_issue (Accepted 2) ∷ [])

-- and not the first one again
abbrev pub NoLegalFirst : Type 0
NoLegalFirst = IsLegal (opened_on unpaid 0) (posting second_issue (Accepted 1) ∷ []) → ⊥

-- on a premium alone there is no history, not even one without turns
abbrev pub NothingLegal : Type 0
NothingLegal = IsLegal (opened_on (premium_on (pos 18262) ∷ []) 0) [] → ⊥
