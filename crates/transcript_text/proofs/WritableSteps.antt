-- What is printed for a line that a legal history answers can be written, and its text is not empty
use Rattle.transcript_text.proofs.Names.{◌≡◌, ℕ, ℤ, ◌<◌, List, [], ◌∷◌, ◌++◌, length, take, Result, Ok, Err, sym, subst, length-append, arith, OnErr, codes, decimal, flat_map, id_of, Call, PostCall, Reply, Line, IsDue, commands_after, reply_of, TranscriptLine, Outcome, Posted, Trimmed, Valued, ValueRefused, ValueNoMemory, IsWritable, IsWritableOutcome, outcome_text, told_text, reply_fields, reports_text, watcher_texts}
use Rattle.life_dates.specs.DayText.{day_text}
use Rattle.policy_types.specs.Words.{kind_word}
use Rattle.transcript_text.specs.Lines.{watcher_text}
use Rattle.policy_types.specs.declared.entry.Reply.TheVariants.{PinRefused}
use Rattle.policy_types.specs.declared.script.Line.TheVariants.{Post, Value, Trim}
use Rattle.policy_types.specs.declared.watcher.Report.{Report}
use Rattle.policy_value.specs.declared.worth.Measure.{Measure}
use Rattle.report_text.specs.Block.{heading_text, row_text, total_text}
use Rattle.report_text.specs.inside.Fields.{measure_fields}
use Rattle.text_lines.specs.Lines.{behind_commas, line_of}
use Rattle.program_endings.proofs.TurnSteps.{due_at}
use Rattle.lane_runner.specs.Lanes.{IsRightLine}
use Rattle.lane_runner.specs.Telling.{IsLegallyTold}
use Rattle.transcript_text.proofs.AnswerSteps.{is_told}
use Rattle.transcript_text.proofs.ToldSteps.{outcome_writable, post_call, valid_front}

pub tellable_writable : (told : TranscriptLine) → IsLegallyTold told → IsWritable told
tellable_writable told can =
    let one = can.answered in
    let before = take one.first.0 can.history in
    subst (λ (l : Line). IsWritableOutcome l told.outcome) (sym can.told_of.line)
    (outcome_writable one.line one.first.1.reply told.outcome (commands_after can.opening before) can.basis can.told_of.outcome
    (subst IsRightLine can.told_of.line can.right)
    (λ command answer posts_it is.
    let call : one.first.1.call ≡ PostCall command = post_call can.dry one.line one.first one.rest command can.answers posts_it in
    let due = due_at can.opening [] can.history one.first.0 one.first.1 can.legal.due can.placed in
    let due_there = subst (λ (c : Call). IsDue can.opening before one.first.1.caller c one.first.1.reply) call due in
    is_told can.opening before one.first.1.caller command answer (valid_front can.opening can.history one.first.0 can.valid)
    (subst (λ (r : Reply). IsDue can.opening before one.first.1.caller (PostCall command) r) is due_there)))

line_some : (first : List ℕ) (fields : List (List ℕ)) → 0 < length (line_of first fields)
line_some first fields =
    omega (arith, length-append (first ++ behind_commas fields) (10 ∷ []))

heading_some : (lane : ℕ) (on : ℤ) (position policies : ℕ) (measure : Measure) → 0 < length (heading_text lane on position policies measure)
unfolding heading_text
heading_some lane on position policies measure =
    line_some (decimal lane) (codes "value" ∷ day_text on ∷ decimal position ∷ decimal policies ∷ measure_fields measure)

front_some : (front back : List ℕ) → 0 < length front → 0 < length (front ++ back)
front_some front back some = omega (arith, some, length-append front back)

some_text : (clerk : ℕ) (line : Line) (outcome : Outcome) → IsWritableOutcome line outcome → 0 < length (outcome_text clerk line outcome)
some_text clerk (Post command) (Posted answer) can =
    line_some (decimal clerk) (kind_word command ∷ decimal (id_of command) ∷ reply_fields (reply_of answer))
some_text clerk Trim (Trimmed floor) can = line_some (decimal clerk) (codes "trim" ∷ decimal floor ∷ [])
some_text clerk (Value on at workers) (Valued valuation) can =
    front_some (heading_text clerk on valuation.value.position (length valuation.value.rows) valuation.value.measure ++ flat_map row_text valuation.value.rows)
    (total_text valuation.value.measure valuation.value.rows)
    (front_some (heading_text clerk on valuation.value.position (length valuation.value.rows) valuation.value.measure) (flat_map row_text valuation.value.rows)
    (heading_some clerk on valuation.value.position (length valuation.value.rows) valuation.value.measure))
some_text clerk (Value on at workers) (ValueRefused refusal) can =
    line_some (decimal clerk) (codes "value" ∷ day_text on ∷ reply_fields (PinRefused refusal))
some_text clerk (Value on at workers) (ValueNoMemory lack) can =
    line_some (decimal clerk) (codes "value" ∷ day_text on ∷ codes "nomemory" ∷ [])
some_text clerk (Post command) (Trimmed floor) can = absurd can
some_text clerk (Post command) (Valued valuation) can = absurd can
some_text clerk (Post command) (ValueRefused refusal) can = absurd can
some_text clerk (Post command) (ValueNoMemory lack) can = absurd can
some_text clerk Trim (Posted answer) can = absurd can
some_text clerk Trim (Valued valuation) can = absurd can
some_text clerk Trim (ValueRefused refusal) can = absurd can
some_text clerk Trim (ValueNoMemory lack) can = absurd can
some_text clerk (Value on at workers) (Posted answer) can = absurd can
some_text clerk (Value on at workers) (Trimmed floor) can = absurd can

pub some_told : (told : TranscriptLine) → IsLegallyTold told → 0 < length (told_text told)
some_told told can = some_text told.lane told.line told.outcome (tellable_writable told can)

-- the lines of some reports are some
pub some_reports : (reports : List Report) → 0 < length reports → 0 < length (reports_text reports)
some_reports [] some = absurd (omega (arith, some))
some_reports (report ∷ reports) some =
    front_some (watcher_text 1 report) (watcher_texts 2 reports)
    (line_some (codes "watcher") (decimal 1 ∷ decimal report.seen ∷ decimal report.tally ∷ []))

-- what holds, holds where a result is an error
pub at_error : {A E : Type 0} (P : Type 0) (result : Result A E) → P → OnErr result P
at_error P (Ok value) holds = tt
at_error P (Err error) holds = holds
