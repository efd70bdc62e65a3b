-- A worked history of reads past the end of a batch: 257 policies are read as 256 and one
use Rattle.std.specs.Prelude.{ℕ, map, List, [], ◌∷◌, pos}
use Rattle.policy_machine.specs.Worked.Names.{range_with_len, Command, Issue, Term, Policy, Pin, Read, Unpin, Pinned, Policies, Unpinned, issued, IsLegalAfter, opened_on}
use Rattle.policy_machine.specs.Worked.Cases.{turn}

-- the issue of a number, and its policy
abbrev pub issue_of : ℕ → Command
issue_of id = Issue id (pos 18262) Term 30 20 5000000 20000

abbrev pub issued_of : ℕ → Policy
issued_of id = issued id (pos 18262) Term 30 20 5000000 20000

-- so many policies with the numbers from 1 on
abbrev pub issues : ℕ → List Command
issues count = map issue_of (range_with_len 1 count)

-- a read from 0 has the numbers 1 to 256, a read from 256 the number 257, and a read from 257 nothing
abbrev pub ReadsOf257 : Type 0
ReadsOf257 = IsLegalAfter (opened_on (issues 257) 0) []
    (turn 1 Pin (Pinned 257 257)
    ∷ turn 1 (Read 0 0) (Policies (map issued_of (range_with_len 1 256)))
    ∷ turn 1 (Read 0 256) (Policies (issued_of 257 ∷ []))
    ∷ turn 1 (Read 0 257) (Policies [])
    ∷ turn 1 (Unpin 0) Unpinned ∷ [])
