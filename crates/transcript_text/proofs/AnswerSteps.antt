-- What the answers of a legal history can say
use Rattle.transcript_text.proofs.Names.{ℕ, List, AllByRecursion, Command, Post, Entry, IsValid, Opening, IsDue, commands_after, Answer, Accepted, Refused, DiskFault, NoMemory, reply_of, IsToldAnswer}
use Rattle.transcript_text.proofs.RefusalSteps.{due_printable}

-- an answer that is due after valid commands can be written
pub is_told : (opening : Opening) (before : List Entry) (caller : ℕ) (command : Command) (answer : Answer)
    → AllByRecursion IsValid (commands_after opening before) → IsDue opening before caller (Post command) (reply_of answer) → IsToldAnswer answer
is_told opening before caller command (Accepted position) valid due = tt
is_told opening before caller command (Refused refusal) valid due = due_printable (commands_after opening before) command refusal valid due
is_told opening before caller command (DiskFault count) valid due = tt
is_told opening before caller command (NoMemory lack) valid due = tt
