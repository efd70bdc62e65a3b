-- If a posting faulted the disk's count rose
use Rattle.program_endings.proofs.Names.{◌≡◌, ℕ, List, [], ◌∷◌, ◌++◌, ap, sym, ◌∙◌, subst, Some, None, Option, AllByRecursion, cons_option, filter_map, last_or, filter_map-append, Rose, Command, Call, Post, Pin, PinAt, Read, Unpin, Trim, Reply, Accepted, Refused, Faulted, Pinned, PinRefused, Slice, Unpinned, Floor, Blank, Entry, Opening, IsAbove, IsDue, IsLegalAfter, fault_of}
use Rattle.std.specs.Option.{unwrap_or}
use Rattle.office_state.specs.Images.{WasFaulted, faults_after}

-- the numbers of the faults that were answered
abbrev faults_met : List Entry → List ℕ
faults_met history = filter_map (λ (entry : Entry). fault_of entry.reply) history

-- the number of a fault that is due is above the count at the opening
due_above : (opening : Opening) (before : List Entry) (caller count : ℕ) (call : Call) → IsDue opening before caller call (Faulted count)
    → IsAbove opening.faults count
due_above opening before caller count (Post command) due = due.1.0
due_above opening before caller count Pin due = absurd due
due_above opening before caller count (PinAt p) due = absurd due
due_above opening before caller count (Read pin first) due = absurd due
due_above opening before caller count (Unpin pin) due = absurd due
due_above opening before caller count Trim due = absurd due

one_above : (opening : Opening) (before : List Entry) (caller : ℕ) (call : Call) (reply : Reply) → IsDue opening before caller call reply
    → (rest : List ℕ) → AllByRecursion (IsAbove opening.faults) rest
    → AllByRecursion (IsAbove opening.faults) (cons_option (fault_of reply) rest)
one_above opening before caller call (Faulted count) due rest above = (due_above opening before caller count call due, above)
one_above opening before caller call (Accepted position) due rest above = above
one_above opening before caller call (Refused refusal) due rest above = above
one_above opening before caller call (Pinned position policies) due rest above = above
one_above opening before caller call (PinRefused refusal) due rest above = above
one_above opening before caller call (Slice policies) due rest above = above
one_above opening before caller call Unpinned due rest above = above
one_above opening before caller call (Floor floor) due rest above = above
one_above opening before caller call Blank due rest above = above

all_above : (opening : Opening) (before history : List Entry) → IsLegalAfter opening before history
    → AllByRecursion (IsAbove opening.faults) (faults_met history)
all_above opening before [] legal = tt
all_above opening before (entry ∷ history) legal =
    one_above opening before entry.caller entry.call entry.reply legal.0 (faults_met history)
    (all_above opening (before ++ entry ∷ []) history legal.1)

last_of : (P : ℕ → Type 0) (other : Option ℕ) (front : List ℕ) (n : ℕ) (rest : List ℕ) (least : ℕ)
    → AllByRecursion P (front ++ n ∷ rest) → P (unwrap_or (last_or other (front ++ n ∷ rest)) least)
last_of P other [] n [] least all = all.0
last_of P other [] n (m ∷ rest) least all = last_of P (Some n) [] m rest least all.1
last_of P other (first ∷ front) n rest least all = last_of P (Some first) front n rest least all.1

pub rose_in : (opening : Opening) (history : List Entry) (held : List Command) (command : Command) → IsLegalAfter opening [] history
    → WasFaulted history held command → Rose opening.faults (faults_after opening history)
rose_in opening history held command legal fault =
    let entry : Entry = record { caller = fault.caller; call = Post command; reply = Faulted fault.count } in
    let met : faults_met history ≡ faults_met fault.before ++ fault.count ∷ faults_met fault.after =
    ap faults_met fault.turns ∙ filter_map-append (λ (e : Entry). fault_of e.reply) fault.before (entry ∷ fault.after) in
    subst (λ (ns : List ℕ). Rose opening.faults (unwrap_or (last_or None ns) opening.faults)) (sym met)
    (last_of (IsAbove opening.faults) None (faults_met fault.before) fault.count (faults_met fault.after) opening.faults
    (subst (AllByRecursion (IsAbove opening.faults)) met (all_above opening [] history legal)))
