-- What a load's turns and answers are
use Rattle.trial_load.proofs.Names.{◌≡◌, ℕ, zero, suc, ◌==◌, Bool, true, false, cond, List, [], ◌∷◌, ◌++◌, map, Some, Ok, Err, inl, inr, refl, ap, sym, ◌∙◌, subst, arith, append-nil, append_assoc, slice_get, AllByRecursion, AllZip, cond-false, eq-eqb, false≢true, sum_by-cons, Dated, Command, Call, PostCall, PinCall, PinAt, Read, Unpin, TrimCall, Entry, Reply, Accepted, Refused, Faulted, Pinned, PinRefused, Slice, Unpinned, Floor, Blank, Line, Post, Lane, lines_in, Opening, IsDue, IsLegalAfter, commands_after, Terminal, IsValueAnswer, IsValuedRow, Valuation, AnsweredLine, AreOfLanes, lines_by, IsOutcome, dry_of, lacked_memory, TranscriptLine, Has, has_filter, has_left, has_map, has_right, ArePostless, posts, quiet_reply, is_refusal, load_day, refused_in}
use Rattle.memory_requests.specs.Evidence.{a_refusal}
use Rattle.std.proofs.lemmas.List.{take_all}
use Rattle.policy_types.specs.declared.entry.PinRefusal.{PinRefusal}
use Rattle.policy_machine.specs.Book.{book}
use Rattle.snapshot_value.specs.declared.valuation.ValueFault.TheVariants.{Pin as NoPin, NoMemory as NoValues}
use Rattle.lane_runner.specs.declared.transcript.Outcome.{Outcome}
use Rattle.lane_runner.specs.declared.transcript.Outcome.TheVariants.{Posted, Trimmed, Valued, ValueRefused, ValueNoMemory}
use Rattle.program_endings.proofs.ReplyNames.{IsAnswered, IsPinned}
use Rattle.program_endings.specs.Blocks.{IsWritableBlock}
use Rattle.program_endings.proofs.BlockSteps.{block_writable}

-- turns that post nothing are answered
pub legal_back : (opening : Opening) (before xs ys : List Entry) → IsLegalAfter opening before (xs ++ ys) → IsLegalAfter opening (before ++ xs) ys
legal_back opening before [] ys legal = subst (λ (b : List Entry). IsLegalAfter opening b ys) (sym (append-nil before)) legal
legal_back opening before (x ∷ xs) ys legal =
    subst (λ (b : List Entry). IsLegalAfter opening b ys) (append_assoc before (x ∷ []) xs) (legal_back opening (before ++ x ∷ []) xs ys legal.1)

pub legal_front : (opening : Opening) (before xs ys : List Entry) → IsLegalAfter opening before (xs ++ ys) → IsLegalAfter opening before xs
legal_front opening before [] ys legal = tt
legal_front opening before (x ∷ xs) ys legal = (legal.0, legal_front opening (before ++ x ∷ []) xs ys legal.1)

pub answered_turns : (opening : Opening) (before history : List Entry) → IsLegalAfter opening before history → ArePostless history
    → AllByRecursion (λ (entry : Entry). IsAnswered entry.reply) history
answered_turns opening before [] legal quiet = tt
answered_turns opening before (entry ∷ history) legal quiet = (
  quiet_reply opening before entry.caller entry.call entry.reply legal.0 quiet.0,
  answered_turns opening (before ++ entry ∷ []) history legal.1 quiet.1,
)

not_refused : (call : Call) (reply : Reply) → posts call ≡ false → is_refusal call reply ≡ false
not_refused (PostCall command) reply quiet = absurd (false≢true (sym quiet))
not_refused PinCall reply quiet = refl
not_refused (PinAt p) reply quiet = refl
not_refused (Read pin first) reply quiet = refl
not_refused (Unpin pin) reply quiet = refl
not_refused TrimCall reply quiet = refl

pub none_refused : (history : List Entry) → ArePostless history → refused_in history ≡ 0
none_refused [] quiet = refl
none_refused (entry ∷ history) quiet =
    let first = ap {B = ℕ} (λ (b : Bool). cond b 1 0) (not_refused entry.call entry.reply quiet.0) in
    let rest = none_refused history quiet.1 in
    let whole = sum_by-cons (λ (entry : Entry). cond (is_refusal entry.call entry.reply) 1 0) entry history in
    omega (arith, first, rest, whole)

pub in_front : (xs ys : List Entry) (n : ℕ) (entry : Entry) → slice_get xs n ≡ Some entry → slice_get (xs ++ ys) n ≡ Some entry
in_front [] ys n entry there = absurd (cc)
in_front (x ∷ xs) ys zero entry there = there
in_front (x ∷ xs) ys (suc n) entry there = in_front xs ys n entry there

-- a valuation that was refused memory was pinned
pub pinned_if_dry : (commands : List Command) (basis : List Dated) (reply : Reply) → IsValueAnswer commands basis load_day Terminal reply (Err (NoValues a_refusal)) → IsPinned reply
pinned_if_dry commands basis (Pinned position policies) is = (position, policies, refl)
pinned_if_dry commands basis (PinRefused refusal) is = absurd is
pinned_if_dry commands basis (Accepted position) is = absurd is
pinned_if_dry commands basis (Refused refusal) is = absurd is
pinned_if_dry commands basis (Faulted count) is = absurd is
pinned_if_dry commands basis (Slice policies) is = absurd is
pinned_if_dry commands basis Unpinned is = absurd is
pinned_if_dry commands basis (Floor floor) is = absurd is
pinned_if_dry commands basis Blank is = absurd is

-- one whose pin was refused
pub refused_pin : (commands : List Command) (basis : List Dated) (reply : Reply) (why : PinRefusal) → IsValueAnswer commands basis load_day Terminal reply (Err (NoPin why))
    → (refusal : PinRefusal) × (reply ≡ PinRefused refusal)
refused_pin commands basis (PinRefused refusal) why is = (refusal, refl)
refused_pin commands basis (Pinned position policies) why is = absurd is
refused_pin commands basis (Accepted position) why is = absurd is
refused_pin commands basis (Refused refusal) why is = absurd is
refused_pin commands basis (Faulted count) why is = absurd is
refused_pin commands basis (Slice policies) why is = absurd is
refused_pin commands basis Unpinned why is = absurd is
refused_pin commands basis (Floor floor) why is = absurd is
refused_pin commands basis Blank why is = absurd is

-- what is known of the rows of a valuation of all commands
pub record AreLastRows (commands : List Command) (basis : List Dated) (valuation : Valuation) : Type 0 where
  pub writable : IsWritableBlock valuation
  pub each : AllZip (IsValuedRow basis load_day Terminal) (book commands) valuation.rows

pub last_rows : (opening : Opening) (before : List Entry) (caller : ℕ) (basis : List Dated) (reply : Reply) (valuation : Valuation)
    → IsDue opening before caller PinCall reply → IsValueAnswer (commands_after opening before) basis load_day Terminal reply (Ok valuation)
    → AreLastRows (commands_after opening before) basis valuation
last_rows opening before caller basis (Pinned position policies) valuation due is =
    let all = take_all position (commands_after opening before) (omega (arith, due.1)) in
    record {
      writable = block_writable (commands_after opening before) basis load_day Terminal position valuation is;
      each = subst (λ (cs : List Command). AllZip (IsValuedRow basis load_day Terminal) (book cs) valuation.rows) all is.rows.each;
    }
last_rows opening before caller basis (PinRefused refusal) valuation due is = absurd is
last_rows opening before caller basis (Accepted position) valuation due is = absurd is
last_rows opening before caller basis (Refused refusal) valuation due is = absurd is
last_rows opening before caller basis (Faulted count) valuation due is = absurd is
last_rows opening before caller basis (Slice policies) valuation due is = absurd is
last_rows opening before caller basis Unpinned valuation due is = absurd is
last_rows opening before caller basis (Floor floor) valuation due is = absurd is
last_rows opening before caller basis Blank valuation due is = absurd is

-- what is reported of a posting is no valuation
pub posting_found : (command : Command) (reply : Reply) (outcome : Outcome) (commands : List Command) (basis : List Dated)
    → IsOutcome commands basis (Post command) reply outcome → lacked_memory outcome ≡ false
posting_found command reply (Posted answer) commands basis told = refl
posting_found command reply (Trimmed floor) commands basis told = absurd told
posting_found command reply (Valued valuation) commands basis told = absurd told
posting_found command reply (ValueRefused refusal) commands basis told = absurd told
posting_found command reply (ValueNoMemory lack) commands basis told = absurd told

pub none_dry_of : (lines : List TranscriptLine) → AllByRecursion (λ (line : TranscriptLine). lacked_memory line.outcome ≡ false) lines → dry_of lines ≡ []
none_dry_of [] none = refl
none_dry_of (line ∷ lines) none =
    ap (map (λ (told : TranscriptLine). told.turn)) (cond-false (lacked_memory line.outcome) _ _ none.0) ∙ none_dry_of lines none.1

-- the line of an answered line is one of a lane's
pub line_in : (answered : List AnsweredLine) (history : List Entry) (lanes : List Lane) (callers : List ℕ) (one : AnsweredLine)
    → AreOfLanes answered history lanes callers → Has (map (λ (lane : Lane). lane.number) lanes) one.clerk → Has answered one
    → Has (lines_in lanes) one.line
line_in answered history [] callers one are clerk has = absurd clerk
line_in answered history (lane ∷ lanes) [] one are clerk has = absurd are
line_in answered history (lane ∷ lanes) (caller ∷ callers) one are (inl same) has =
    let own : (one.clerk == lane.number) ≡ true = eq-eqb one.clerk lane.number (sym same) in
    let by_lane = has_filter (λ (other : AnsweredLine). other.clerk == lane.number) answered one own has in
    let line = has_map (λ (other : AnsweredLine). other.line) (lines_by lane.number answered) one by_lane in
    has_left lane.lines (lines_in lanes) one.line (subst (λ (ls : List Line). Has ls one.line) are.0.0 line)
line_in answered history (lane ∷ lanes) (caller ∷ callers) one are (inr later) has =
    has_right lane.lines (lines_in lanes) one.line (line_in answered history lanes callers one are.1 later has)
