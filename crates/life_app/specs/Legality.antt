-- Legality: the lines of a transcript are answers of one legal history, each lane's lines once and in order
use Rattle.std.specs.Prelude.{◌≡◌, ◌⊎◌, ℕ, List, [], ◌∷◌, ◌++◌, nat_eq, decimal}
use Rattle.std.specs.Io.KnownBytes.{Appends}
use Rattle.life_app.specs.Names.{AllByRecursion, AllZip, Contains, IsDistinct, Ghosts, Command, Entry, Lane, Reply, IsLegal, opened_on, AnsweredLine, AreLinesOf, Stream, PostLine, id_of}
use Rattle.policy_types.specs.Words.{kind_word}
use Rattle.script_run.specs.Names.{concat}
use Rattle.text_lines.specs.Lines.{line_of}
use Rattle.transcript_text.specs.Transcript.{reply_fields}

-- the line of a posting: its lane, its kind, the policy's number, and the reply
abbrev pub reply_line : ℕ → Command → Reply → List ℕ
reply_line lane command reply = line_of (decimal lane) (kind_word command ∷ decimal (id_of command) ∷ reply_fields reply)

-- if the answered line posts a command, its text gives the reply of the turn that answers it
abbrev pub GivesReply : AnsweredLine → List ℕ → Type 0
GivesReply answered text =
    (command : Command) → answered.line ≡ PostLine command → text ≡ reply_line answered.clerk command answered.first.1.reply

-- The transcript of these lanes that was written in a run with these disks before and after it.
pub record IsLegallyAnswered {D : Type 0} (g : Ghosts D) (Opens : List ℕ → List Command → Type 0) (old new : D)
    (lanes : List Lane) (output : Stream) (status : ℕ) : Type 0 where
  -- the turns of the run are one legal history from the commands of the file on
  pub commands : List Command
  pub history : List Entry
  pub opened : g.honest new → Opens (g.reads old) commands
  pub legal : IsLegal (opened_on commands (g.faults old)) history
  -- each lane has a caller of its own, and the caller's turns answer the lane's lines, each once and in order
  pub callers : List ℕ
  pub dry : List ℕ
  pub lines : List AnsweredLine
  pub distinct : IsDistinct nat_eq callers
  pub theirs : AllByRecursion (λ entry. Contains callers entry.caller) history
  pub answered : AreLinesOf lines history lanes callers dry
  -- each line has its text, and reports follow; a prefix of that was written, and all of it if the status is 0 or 8
  pub texts : List (List ℕ)
  pub replies : AllZip GivesReply lines texts
  pub reports : List ℕ
  pub written : List ℕ
  pub rest : List ℕ
  pub prefix : written ++ rest ≡ concat texts ++ reports
  pub appended : Appends output.before output.after written
  pub whole : (status ≡ 0) ⊎ (status ≡ 8) → rest ≡ []
