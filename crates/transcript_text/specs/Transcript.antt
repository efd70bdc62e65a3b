-- The text of a run: that of each answered line of the script, in the order of their first turns, then the watchers' reports
use Rattle.std.specs.Prelude.{◌≡◌, ◌⊎◌, ℕ, ℤ, List, [], ◌∷◌, ◌++◌, take, codes, decimal}
use Rattle.transcript_text.specs.Names.{AllZip, Contains, enumerate_from, flat_map, Refusal, Taken, Unknown, BeforeLast, WrongStatus, TermOver, NothingDue, TooEarly, GraceOver, NotInArrears, TooLate, WrongAmount, NotAReduction, NotMatured, OverSettled, Full, NotUpgraded, Upgraded, Line, Post, Value, Trim, Report, block_text, day_text, cents_text, line_of}
use Rattle.policy_types.specs.declared.command.Command.{Command}
use Rattle.policy_types.specs.declared.policy.Policy.{Policy}
use Rattle.policy_types.specs.declared.entry.Reply.{Reply}
use Rattle.policy_types.specs.declared.entry.Reply.TheVariants.{Accepted, Refused, Faulted, Pinned, PinRefused, Floor, Blank}
use Rattle.policy_types.specs.declared.entry.PinRefusal.{PinRefusal}
use Rattle.policy_types.specs.declared.entry.PinRefusal.TheVariants.{Ahead, Trimmed, PinsFull}
use Rattle.policy_types.specs.declared.entry.Entry.{Entry}
use Rattle.policy_types.specs.Valid.{id_of}
use Rattle.policy_machine.specs.Book.{book}
use Rattle.policy_machine.specs.History.{accepted_of}
use Rattle.policy_value.specs.declared.worth.Measure.TheVariants.{Terminal}
use Rattle.policy_value.specs.declared.worth.Row.{Row}
use Rattle.policy_types.specs.Words.{kind_word, status_word}
use Rattle.lane_runner.specs.AnsweredLines.{AnsweredLine}

-- why a posting was refused: a word, and the value if the refusal holds one
abbrev pub refusal_fields : Refusal → List (List ℕ)
refusal_fields Taken = codes "taken" ∷ []
refusal_fields Unknown = codes "unknown" ∷ []
refusal_fields (BeforeLast last) = codes "beforelast" ∷ day_text last ∷ []
refusal_fields (WrongStatus status) = codes "wrongstatus" ∷ status_word status ∷ []
refusal_fields (TermOver end) = codes "termover" ∷ day_text end ∷ []
refusal_fields NothingDue = codes "nothingdue" ∷ []
refusal_fields (TooEarly due) = codes "tooearly" ∷ day_text due ∷ []
refusal_fields (GraceOver due) = codes "graceover" ∷ day_text due ∷ []
refusal_fields (NotInArrears due) = codes "notinarrears" ∷ day_text due ∷ []
refusal_fields (TooLate limit) = codes "toolate" ∷ day_text limit ∷ []
refusal_fields (WrongAmount amount) = codes "wrongamount" ∷ cents_text amount ∷ []
refusal_fields (NotAReduction amount) = codes "notareduction" ∷ cents_text amount ∷ []
refusal_fields (NotMatured end) = codes "notmatured" ∷ day_text end ∷ []
refusal_fields (OverSettled outstanding) = codes "oversettled" ∷ cents_text outstanding ∷ []
refusal_fields Full = codes "full" ∷ codes "4000000" ∷ []
refusal_fields NotUpgraded = codes "notupgraded" ∷ []
refusal_fields (Upgraded position) = codes "upgraded" ∷ decimal position ∷ []

-- what became of a posting; or why a position wasn't pinned, with the number of commands, or with the position before
-- which nothing is kept
abbrev pub reply_fields : Reply → List (List ℕ)
reply_fields (Accepted position) = codes "accepted" ∷ decimal position ∷ []
reply_fields (Refused refusal) = codes "refused" ∷ refusal_fields refusal
reply_fields (Faulted count) = codes "fault" ∷ []
reply_fields Blank = codes "nomemory" ∷ []
reply_fields (PinRefused (Ahead count)) = codes "refused" ∷ codes "ahead" ∷ decimal count ∷ []
reply_fields (PinRefused (Trimmed floor)) = codes "refused" ∷ codes "trimmed" ∷ decimal floor ∷ []
reply_fields (PinRefused PinsFull) = codes "refused" ∷ codes "pinsfull" ∷ []
reply_fields _ = []

-- The texts of a run: that of a posting, by its reply; that of a trim, with the position before which nothing is
-- kept; that of a valuation on a day, which was refused, or was refused memory, or has its position and rows; and
-- those of the watchers' reports.
pub record Wording : Type 0 where
  pub posting : ℕ → Command → Reply → List ℕ
  pub trim : ℕ → ℕ → List ℕ
  pub unpinned : ℕ → ℤ → PinRefusal → List ℕ
  pub unvalued : ℕ → ℤ → List ℕ
  pub block : ℕ → ℤ → ℕ → List Row → List ℕ
  pub reports : List Report → List ℕ

-- A posting's line has the lane, the kind, the policy, or 0 if none is named, and what became of it. The reports are
-- in order, numbered from 1.
abbrev pub run_wording : Wording
run_wording = record {
  posting = λ clerk command reply. line_of (decimal clerk) (kind_word command ∷ decimal (id_of command) ∷ reply_fields reply);
  trim = λ clerk floor. line_of (decimal clerk) (codes "trim" ∷ decimal floor ∷ []);
  unpinned = λ clerk on refusal. line_of (decimal clerk) (codes "value" ∷ day_text on ∷ reply_fields (PinRefused refusal));
  unvalued = λ clerk on. line_of (decimal clerk) (codes "value" ∷ day_text on ∷ codes "nomemory" ∷ []);
  block = λ clerk on position rows. block_text clerk on position Terminal rows;
  reports = λ reports.
      flat_map (λ (numbered : ℕ × Report).
      line_of (codes "watcher") (decimal numbered.0 ∷ decimal numbered.1.seen ∷ decimal numbered.1.tally ∷ []))
      (enumerate_from 1 reports);
}

-- The text of a lane's line, by the reply to its first turn, before which these commands were accepted. The text of a
-- valuation at a position has a row for each of the policies that the first so many of them leave.
abbrev pub IsToldText : Wording → (ℤ → Policy → Row → Type 0) → ℕ → Line → Reply → List Command → (IsDry : Type 0) → List ℕ → Type 0
IsToldText wording IsRow clerk (Post command) reply commands IsDry text = text ≡ wording.posting clerk command reply
IsToldText wording IsRow clerk Trim (Floor floor) commands IsDry text = text ≡ wording.trim clerk floor
IsToldText wording IsRow clerk (Value on at workers) (PinRefused refusal) commands IsDry text = text ≡ wording.unpinned clerk on refusal
IsToldText wording IsRow clerk (Value on at workers) (Pinned position policies) commands IsDry text =
    (IsDry × (text ≡ wording.unvalued clerk on))
    ⊎ ((IsDry → ⊥) × ((rows : List Row) × AllZip (IsRow on) (book (take position commands)) rows
    × (text ≡ wording.block clerk on position rows)))
IsToldText _ _ _ _ _ _ _ _ = ⊥

-- the text of an answered line of a history that began after these commands
abbrev pub IsToldLine : Wording → (ℤ → Policy → Row → Type 0) → List Command → List Entry → List ℕ → AnsweredLine → List ℕ → Type 0
IsToldLine wording IsRow commands history dry answered text =
    IsToldText wording IsRow answered.clerk answered.line answered.first.1.reply
    (commands ++ accepted_of (take answered.first.0 history)) (Contains dry answered.first.0) text
