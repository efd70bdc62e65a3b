-- Which of the texts of a run hold the line of an accepted posting
use Rattle.life_app.proofs.Names.{◌≡◌, ◌⊎◌, ℕ, ℤ, zero, suc, ◌+◌, ◌<◌, ◌≤◌, ◌/◌, ◌%◌, ◌==◌, Bool, true, false, List, [], ◌∷◌, ◌++◌, length, take, get_or, refl, ap, ap₂, sym, ◌∙◌, subst, inl, inr, arith, append_assoc, append-nil, length-append, codes, decimal, digits, if◌then◌else◌, AllByRecursion, AllZip, flat_map, Command, Entry, Reply, Accepted, Refused, Faulted, Blank, Pinned, PinRefused, Floor, Slice, Unpinned, accepted_of, Row, Bounds, Both, Word, NoBasis, BelowTable, PastTable, RateHigh, Terminal, day_text, heading_text, row_text, total_text, block_text, worth_fields, reply_fields, run_wording, IsToldLine, IsToldText}
use Rattle.std.specs.Fmt.{digit_glyph, digits_onto}
use Rattle.std.specs.List.{concat, enumerate_from}
use Rattle.std.specs.Prelude.{nat_lt}
use Rattle.std.proofs.lemmas.Bool.{lt-ltb}
use Rattle.money_core.specs.CentsText.{cents_text}
use Rattle.money_core.proofs.CentsTextLemmas.{hundredths_text}
use Rattle.report_text.specs.Names.{Close, Enough, Short}
use Rattle.lane_runner.specs.AnsweredLines.{AnsweredLine}
use Rattle.policy_types.specs.Valid.{id_of}
use Rattle.policy_types.specs.Words.{kind_word, status_word}
use Rattle.policy_types.specs.declared.entry.PinRefusal.{PinRefusal}
use Rattle.policy_types.specs.declared.entry.PinRefusal.TheVariants.{Ahead, Trimmed, PinsFull}
use Rattle.policy_types.specs.declared.policy.Policy.{Policy}
use Rattle.policy_types.specs.declared.refusal.Refusal.{Refusal}
use Rattle.policy_types.specs.declared.refusal.Refusal.TheVariants.{TooEarly, WrongAmount, Taken, Unknown, BeforeLast, WrongStatus, TermOver, NothingDue, GraceOver, NotInArrears, TooLate, NotAReduction, NotMatured, OverSettled, Full, NotUpgraded, Upgraded}
use Rattle.policy_types.specs.declared.script.Line.{Line}
use Rattle.policy_types.specs.declared.script.Line.TheVariants.{Post, Value, Trim}
use Rattle.policy_types.specs.declared.watcher.Report.{Report}
use Rattle.policy_value.specs.declared.worth.Measure.{Measure}
use Rattle.policy_value.specs.declared.worth.Measure.TheVariants.{Deficiency, Mean}
use Rattle.policy_value.specs.declared.worth.Worth.{Worth}
use Rattle.report_text.specs.Block.{total_of}
use Rattle.text_lines.specs.Lines.{behind_commas, line_of}
use Rattle.transcript_text.specs.Transcript.{refusal_fields}
use Rattle.life_app.specs.Durable.{accepted_line}
use Rattle.life_app.proofs.LineLaws.{IsAmong, IsBeyond, IsFree, among, lines_append, lines_free, lines_text}
use Rattle.life_app.proofs.TextLaws.{AreBare, IsBare, bare_both, bare_by, bare_day, bare_hundredths, bare_kind, bare_status, same_line}

-- ---- numbers, however large

abbrev pub AreDigits : List ℕ → Type 0
AreDigits bytes = AllByRecursion (λ b. (48 ≤ b) × (b < 58)) bytes

glyph : (d : ℕ) → d < 10 → (48 ≤ digit_glyph false d) × (digit_glyph false d < 58)
glyph d small = let is : nat_lt d 10 ≡ true = lt-ltb d 10 small in rw is ((omega arith, omega (arith, small)))

one_or_other : (b : Bool) (xs ys : List ℕ) → AreDigits xs → AreDigits ys → AreDigits (if b then xs else ys)
one_or_other true xs ys one other = one
one_or_other false xs ys one other = other

onto_digits : (turns n : ℕ) (behind : List ℕ) → AreDigits behind → AreDigits (digits_onto turns 10 false n behind)
onto_digits zero n behind are = are
onto_digits (suc turns) n behind are =
    let one = glyph (n % 10) (omega arith) in
    one_or_other (n / 10 == 0) (digit_glyph false (n % 10) ∷ behind) (digits_onto turns 10 false (n / 10) (digit_glyph false (n % 10) ∷ behind))
    (one, are) (onto_digits turns (n / 10) (digit_glyph false (n % 10) ∷ behind) (one, are))

pub are_digits : (n : ℕ) → AreDigits (decimal n)
unfolding digits
are_digits n = onto_digits 64 n [] tt

bare_of_digits : (bytes : List ℕ) → AreDigits bytes → IsBare bytes
bare_of_digits [] are = tt
bare_of_digits (b ∷ bytes) are = (omega (arith, are.0.0), bare_of_digits bytes are.1)

pub bare_any : (n : ℕ) → IsBare (decimal n)
bare_any n = bare_of_digits (decimal n) (are_digits n)

low_first : (bytes : List ℕ) → AreDigits bytes → get_or bytes 0 0 < 58
low_first [] are = omega arith
low_first (b ∷ bytes) are = are.0.1

-- a number begins with no letter
pub low_number : (n : ℕ) → get_or (decimal n) 0 0 < 58
low_number n = low_first (decimal n) (are_digits n)

pub bare_money : (n : ℕ) → IsBare (cents_text n)
bare_money n = bare_both (decimal (n / 100)) (hundredths_text (n % 100)) (bare_any (n / 100)) (bare_hundredths (n % 100))

-- ---- a line's content, without its line feed

abbrev pub content_of : List ℕ → List (List ℕ) → List ℕ
content_of first fields = first ++ behind_commas fields

pub feedless : (bytes : List ℕ) → IsBare bytes → IsFree bytes
feedless [] bare = tt
feedless (b ∷ bytes) bare = ((λ feed. omega (arith, feed, bare.0)), feedless bytes bare.1)

pub free_both : (xs ys : List ℕ) → IsFree xs → IsFree ys → IsFree (xs ++ ys)
free_both [] ys one two = two
free_both (x ∷ xs) ys one two = (one.0, free_both xs ys one.1 two)

free_fields : (fields : List (List ℕ)) → AreBare fields → IsFree (behind_commas fields)
free_fields [] bare = tt
free_fields (field ∷ fields) bare =
    ((λ feed. omega (arith, feed)), free_both field (behind_commas fields) (feedless field bare.0) (free_fields fields bare.1))

pub free_content : (first : List ℕ) (fields : List (List ℕ)) → IsBare first → AreBare fields → IsFree (content_of first fields)
free_content first fields one bare = free_both first (behind_commas fields) (feedless first one) (free_fields fields bare)

pub same_content : (a b : List ℕ) (fs gs : List (List ℕ)) → IsBare a → IsBare b → AreBare fs → AreBare gs
    → content_of a fs ≡ content_of b gs → (a ≡ b) × (fs ≡ gs)
same_content a b fs gs one other bare too same =
    let lines : line_of a fs ++ [] ≡ line_of b gs ++ [] = ap (λ (content : List ℕ). (content ++ 10 ∷ []) ++ []) same in
    let fields = same_line a b fs gs [] [] one other bare too lines in
    (fields.0, fields.1)

-- ---- that of an accepted posting

abbrev pub accepted_fields : Command → ℕ → List (List ℕ)
accepted_fields named k = kind_word named ∷ decimal (id_of named) ∷ codes "accepted" ∷ decimal k ∷ []

pub bare_fields : (named : Command) (k : ℕ) → AreBare (accepted_fields named k)
bare_fields named k = (bare_kind named, (bare_any (id_of named), (bare_by (codes "accepted") refl, (bare_any k, tt))))

joined : (a b c word d : List ℕ)
    → a ++ 44 ∷ b ++ 44 ∷ c ++ 44 ∷ (word ++ 44 ∷ []) ++ d ≡ a ++ 44 ∷ (b ++ 44 ∷ (c ++ 44 ∷ (word ++ 44 ∷ (d ++ []))))
joined a b c word d =
    let last : 44 ∷ ((word ++ 44 ∷ []) ++ d) ≡ 44 ∷ (word ++ 44 ∷ (d ++ [])) =
    ap (λ (bytes : List ℕ). 44 ∷ bytes) (append_assoc word (44 ∷ []) d ∙ ap (λ (bytes : List ℕ). word ++ 44 ∷ bytes) (sym (append-nil d))) in
    append_assoc (a ++ 44 ∷ b ++ 44 ∷ c) (44 ∷ (word ++ 44 ∷ [])) d
    ∙ append_assoc (a ++ 44 ∷ b) (44 ∷ c) (44 ∷ (word ++ 44 ∷ []) ++ d)
    ∙ append_assoc a (44 ∷ b) (44 ∷ c ++ (44 ∷ (word ++ 44 ∷ []) ++ d))
    ∙ ap (λ (bytes : List ℕ). a ++ 44 ∷ (b ++ 44 ∷ (c ++ bytes))) last

abbrev pub accepted_content : ℕ → Command → ℕ → List ℕ
accepted_content lane named k = content_of (decimal lane) (accepted_fields named k)

pub accepted_is : (lane : ℕ) (named : Command) (k : ℕ) → accepted_line lane named k ≡ accepted_content lane named k ++ 10 ∷ []
accepted_is lane named k =
    ap (λ (bytes : List ℕ). bytes ++ 10 ∷ []) (joined (decimal lane) (kind_word named) (decimal (id_of named)) (codes "accepted") (decimal k))

pub free_accepted : (lane : ℕ) (named : Command) (k : ℕ) → IsFree (accepted_content lane named k)
free_accepted lane named k = free_content (decimal lane) (accepted_fields named k) (bare_any lane) (bare_fields named k)

-- the text begins with a digit, or with a comma
low_content : (lane : ℕ) (named : Command) (k : ℕ) → get_or (accepted_content lane named k) 0 0 < 58
low_content lane named k = by (decimal lane) (are_digits lane)
  where
    by : (bytes : List ℕ) → AreDigits bytes → get_or (content_of bytes (accepted_fields named k)) 0 0 < 58
    by [] are = omega arith
    by (b ∷ bytes) are = are.0.1

-- ---- texts of whole lines, some of which may be this one

-- The text is these lines, and each of them with this content satisfies the condition.
pub record HasLines (text : List ℕ) (content : List ℕ) (Says : Type 0) : Type 0 where
  pub lines : List (List ℕ)
  pub free : AllByRecursion IsFree lines
  pub are : text ≡ lines_text lines
  pub only : AllByRecursion (λ (line : List ℕ). line ≡ content → Says) lines

pub no_lines : (content : List ℕ) (Says : Type 0) → HasLines [] content Says
no_lines content Says = record { lines = []; free = tt; are = refl; only = tt }

pub one_line : (line content : List ℕ) (Says : Type 0) → IsFree line → (line ≡ content → Says) → HasLines (line ++ 10 ∷ []) content Says
one_line line content Says free says = record { lines = line ∷ []; free = (free, tt); are = refl; only = (says, tt) }

pub both_lines : (text more content : List ℕ) (Says : Type 0) → HasLines text content Says → HasLines more content Says
    → HasLines (text ++ more) content Says
both_lines text more content Says one two = record {
  lines = one.lines ++ two.lines;
  free = lines_free one.lines two.lines one.free two.free;
  are = ap₂ (λ (a b : List ℕ). a ++ b) one.are two.are ∙ sym (lines_append one.lines two.lines);
  only = all_both one.lines one.only;
}
  where
    all_both : (lines : List (List ℕ)) → AllByRecursion (λ (line : List ℕ). line ≡ content → Says) lines
        → AllByRecursion (λ (line : List ℕ). line ≡ content → Says) (lines ++ two.lines)
    all_both [] all = two.only
    all_both (line ∷ lines) all = (all.0, all_both lines all.1)

-- a line that begins with a letter
pub letter_line : (line : List ℕ) (lane : ℕ) (named : Command) (k : ℕ) → IsFree line → 58 ≤ get_or line 0 0
    → HasLines (line ++ 10 ∷ []) (accepted_content lane named k) ⊥
letter_line line lane named k free high =
    one_line line (accepted_content lane named k) ⊥ free
    (λ same. let low = low_content lane named k in let first = ap (λ (bytes : List ℕ). get_or bytes 0 0) same in omega (arith, low, high, first))

-- a line of other fields, the third of which isn't `accepted`
pub other_line : (Says : Type 0) (first : List ℕ) (fields : List (List ℕ)) (lane : ℕ) (named : Command) (k : ℕ) → IsBare first → AreBare fields
    → (get_or (get_or fields 2 []) 0 0 ≡ 97 → ⊥) → HasLines (line_of first fields) (accepted_content lane named k) Says
other_line Says first fields lane named k one bare other =
    one_line (content_of first fields) (accepted_content lane named k) Says (free_content first fields one bare)
    (λ same. let fields_are = same_content first (decimal lane) fields (accepted_fields named k) one (bare_any lane) bare (bare_fields named k) same in
    absurd (other (ap (λ (fs : List (List ℕ)). get_or (get_or fs 2 []) 0 0) fields_are.1)))

pub not_number : (n : ℕ) → get_or (decimal n) 0 0 ≡ 97 → ⊥
not_number n is = let low = low_number n in omega (arith, low, is)

low_money : (n : ℕ) → get_or (cents_text n) 0 0 < 58
low_money n = by (decimal (n / 100)) (are_digits (n / 100))
  where
    by : (bytes : List ℕ) → AreDigits bytes → get_or (bytes ++ hundredths_text (n % 100)) 0 0 < 58
    by [] are = omega arith
    by (b ∷ bytes) are = are.0.1

not_money : (n : ℕ) → get_or (cents_text n) 0 0 ≡ 97 → ⊥
not_money n is = let low = low_money n in omega (arith, low, is)

-- ---- a posting

bare_refusal : (refusal : Refusal) → AreBare (refusal_fields refusal)
bare_refusal Taken = (bare_by (codes "taken") refl, tt)
bare_refusal Unknown = (bare_by (codes "unknown") refl, tt)
bare_refusal (BeforeLast last) = (bare_by (codes "beforelast") refl, (bare_day last, tt))
bare_refusal (WrongStatus status) = (bare_by (codes "wrongstatus") refl, (bare_status status, tt))
bare_refusal (TermOver end) = (bare_by (codes "termover") refl, (bare_day end, tt))
bare_refusal NothingDue = (bare_by (codes "nothingdue") refl, tt)
bare_refusal (TooEarly due) = (bare_by (codes "tooearly") refl, (bare_day due, tt))
bare_refusal (GraceOver due) = (bare_by (codes "graceover") refl, (bare_day due, tt))
bare_refusal (NotInArrears due) = (bare_by (codes "notinarrears") refl, (bare_day due, tt))
bare_refusal (TooLate limit) = (bare_by (codes "toolate") refl, (bare_day limit, tt))
bare_refusal (WrongAmount amount) = (bare_by (codes "wrongamount") refl, (bare_money amount, tt))
bare_refusal (NotAReduction amount) = (bare_by (codes "notareduction") refl, (bare_money amount, tt))
bare_refusal (NotMatured end) = (bare_by (codes "notmatured") refl, (bare_day end, tt))
bare_refusal (OverSettled outstanding) = (bare_by (codes "oversettled") refl, (bare_money outstanding, tt))
bare_refusal Full = (bare_by (codes "full") refl, (bare_by (codes "4000000") refl, tt))
bare_refusal NotUpgraded = (bare_by (codes "notupgraded") refl, tt)
bare_refusal (Upgraded position) = (bare_by (codes "upgraded") refl, (bare_any position, tt))

pub bare_reply : (reply : Reply) → AreBare (reply_fields reply)
bare_reply (Accepted position) = (bare_by (codes "accepted") refl, (bare_any position, tt))
bare_reply (Refused refusal) = (bare_by (codes "refused") refl, bare_refusal refusal)
bare_reply (Faulted count) = (bare_by (codes "fault") refl, tt)
bare_reply Blank = (bare_by (codes "nomemory") refl, tt)
bare_reply (PinRefused (Ahead count)) = (bare_by (codes "refused") refl, (bare_by (codes "ahead") refl, (bare_any count, tt)))
bare_reply (PinRefused (Trimmed floor)) = (bare_by (codes "refused") refl, (bare_by (codes "trimmed") refl, (bare_any floor, tt)))
bare_reply (PinRefused PinsFull) = (bare_by (codes "refused") refl, (bare_by (codes "pinsfull") refl, tt))
bare_reply (Pinned position policies) = tt
bare_reply (Slice policies) = tt
bare_reply Unpinned = tt
bare_reply (Floor floor) = tt

-- the line posts, the reply accepts, and what is written of both is what is written of these
abbrev pub SaysAccepted : Line → Reply → Command → ℕ → Type 0
SaysAccepted (Post command) (Accepted position) named k =
    (kind_word command ≡ kind_word named) × (decimal (id_of command) ≡ decimal (id_of named)) × (decimal position ≡ decimal k)
SaysAccepted _ _ _ _ = ⊥

unaccepted : (clerk : ℕ) (command : Command) (reply : Reply) (lane : ℕ) (named : Command) (k : ℕ)
    → (get_or (get_or (kind_word command ∷ decimal (id_of command) ∷ reply_fields reply) 2 []) 0 0 ≡ 97 → ⊥)
    → HasLines (run_wording.posting clerk command reply) (accepted_content lane named k) (SaysAccepted (Post command) reply named k)
unaccepted clerk command reply lane named k other =
    other_line (SaysAccepted (Post command) reply named k) (decimal clerk) (kind_word command ∷ decimal (id_of command) ∷ reply_fields reply)
    lane named k (bare_any clerk) (bare_kind command, (bare_any (id_of command), bare_reply reply)) other

pub posting : (clerk : ℕ) (command : Command) (reply : Reply) (lane : ℕ) (named : Command) (k : ℕ)
    → HasLines (run_wording.posting clerk command reply) (accepted_content lane named k) (SaysAccepted (Post command) reply named k)
posting clerk command (Accepted position) lane named k =
    one_line (content_of (decimal clerk) (accepted_fields command position)) (accepted_content lane named k)
    (SaysAccepted (Post command) (Accepted position) named k) (free_accepted clerk command position)
    (λ same. let fields = (same_content (decimal clerk) (decimal lane) (accepted_fields command position) (accepted_fields named k)
    (bare_any clerk) (bare_any lane) (bare_fields command position) (bare_fields named k) same).1 in
    (ap (λ (fs : List (List ℕ)). get_or fs 0 []) fields, ap (λ (fs : List (List ℕ)). get_or fs 1 []) fields, ap (λ (fs : List (List ℕ)). get_or fs 3 []) fields))
posting clerk command (Refused refusal) lane named k = unaccepted clerk command (Refused refusal) lane named k (λ is. omega (arith, is))
posting clerk command (Faulted count) lane named k = unaccepted clerk command (Faulted count) lane named k (λ is. omega (arith, is))
posting clerk command Blank lane named k = unaccepted clerk command Blank lane named k (λ is. omega (arith, is))
posting clerk command (PinRefused (Ahead count)) lane named k = unaccepted clerk command (PinRefused (Ahead count)) lane named k (λ is. omega (arith, is))
posting clerk command (PinRefused (Trimmed floor)) lane named k = unaccepted clerk command (PinRefused (Trimmed floor)) lane named k (λ is. omega (arith, is))
posting clerk command (PinRefused PinsFull) lane named k = unaccepted clerk command (PinRefused PinsFull) lane named k (λ is. omega (arith, is))
posting clerk command (Pinned position policies) lane named k = unaccepted clerk command (Pinned position policies) lane named k (λ is. omega (arith, is))
posting clerk command (Slice policies) lane named k = unaccepted clerk command (Slice policies) lane named k (λ is. omega (arith, is))
posting clerk command Unpinned lane named k = unaccepted clerk command Unpinned lane named k (λ is. omega (arith, is))
posting clerk command (Floor floor) lane named k = unaccepted clerk command (Floor floor) lane named k (λ is. omega (arith, is))

-- ---- a valuation

pub bare_worth_of : (worth : Worth) → AreBare (worth_fields worth)
bare_worth_of (Bounds lo hi) = (bare_money lo, (bare_money hi, tt))
bare_worth_of (Both lo hi min_lo min_hi Short) =
    (bare_money lo, (bare_money hi, (bare_money min_lo, (bare_money min_hi, (bare_by (codes "short") refl, tt)))))
bare_worth_of (Both lo hi min_lo min_hi Enough) =
    (bare_money lo, (bare_money hi, (bare_money min_lo, (bare_money min_hi, (bare_by (codes "enough") refl, tt)))))
bare_worth_of (Both lo hi min_lo min_hi Close) =
    (bare_money lo, (bare_money hi, (bare_money min_lo, (bare_money min_hi, (bare_by (codes "close") refl, tt)))))
bare_worth_of (Word NoBasis) = (bare_by (codes "nobasis") refl, tt)
bare_worth_of (Word BelowTable) = (bare_by (codes "belowtable") refl, tt)
bare_worth_of (Word PastTable) = (bare_by (codes "pasttable") refl, tt)
bare_worth_of (Word RateHigh) = (bare_by (codes "ratehigh") refl, tt)

module _ (Says : Type 0) (lane : ℕ) (named : Command) (k : ℕ) where
  row_lines : (rows : List Row) → HasLines (flat_map row_text rows) (accepted_content lane named k) Says
  unfolding row_text
  row_lines [] = no_lines (accepted_content lane named k) Says
  row_lines (row ∷ rows) =
      both_lines (row_text row) (flat_map row_text rows) (accepted_content lane named k) Says
      (other_line Says (codes "row") (decimal row.id ∷ status_word row.status ∷ decimal row.t ∷ worth_fields row.worth) lane named k
      (bare_by (codes "row") refl) (bare_any row.id, (bare_status row.status, (bare_any row.t, bare_worth_of row.worth))) (not_number row.t))
      (row_lines rows)

  heading_lines : (clerk : ℕ) (on : ℤ) (position policies : ℕ) (measure : Measure)
      → HasLines (heading_text clerk on position policies measure) (accepted_content lane named k) Says
  unfolding heading_text
  heading_lines clerk on position policies Terminal =
      other_line Says (decimal clerk) (codes "value" ∷ day_text on ∷ decimal position ∷ decimal policies ∷ []) lane named k (bare_any clerk)
      (bare_by (codes "value") refl, (bare_day on, (bare_any position, (bare_any policies, tt)))) (not_number position)
  heading_lines clerk on position policies Mean =
      other_line Says (decimal clerk) (codes "value" ∷ day_text on ∷ decimal position ∷ decimal policies ∷ codes "mean" ∷ []) lane named k (bare_any clerk)
      (bare_by (codes "value") refl, (bare_day on, (bare_any position, (bare_any policies, (bare_by (codes "mean") refl, tt))))) (not_number position)
  heading_lines clerk on position policies Deficiency =
      other_line Says (decimal clerk) (codes "value" ∷ day_text on ∷ decimal position ∷ decimal policies ∷ codes "deficiency" ∷ []) lane named k
      (bare_any clerk)
      (bare_by (codes "value") refl, (bare_day on, (bare_any position, (bare_any policies, (bare_by (codes "deficiency") refl, tt))))) (not_number position)

  three_sums : (rows : List Row)
      → HasLines
      (line_of (codes "total")
      (cents_text (total_of (λ t. t.lower) rows) ∷ cents_text (total_of (λ t. t.upper) rows) ∷ decimal (total_of (λ t. t.unvalued) rows) ∷ []))
      (accepted_content lane named k) Says
  three_sums rows =
      let lower = total_of (λ t. t.lower) rows in
      let upper = total_of (λ t. t.upper) rows in
      let unvalued = total_of (λ t. t.unvalued) rows in
      other_line Says (codes "total") (cents_text lower ∷ cents_text upper ∷ decimal unvalued ∷ []) lane named k (bare_by (codes "total") refl)
      (bare_money lower, (bare_money upper, (bare_any unvalued, tt))) (not_number unvalued)

  total_lines : (rows : List Row) (measure : Measure) → HasLines (total_text measure rows) (accepted_content lane named k) Says
  unfolding total_text
  total_lines rows Terminal = three_sums rows
  total_lines rows Mean = three_sums rows
  total_lines rows Deficiency =
      let lower = total_of (λ t. t.lower) rows in
      let upper = total_of (λ t. t.upper) rows in
      let low_minimum = total_of (λ t. t.lower_minimum) rows in
      let high_minimum = total_of (λ t. t.upper_minimum) rows in
      let unvalued = total_of (λ t. t.unvalued) rows in
      other_line Says (codes "total")
      (cents_text lower ∷ cents_text upper ∷ cents_text low_minimum ∷ cents_text high_minimum ∷ decimal unvalued ∷ []) lane named k
      (bare_by (codes "total") refl)
      (bare_money lower, (bare_money upper, (bare_money low_minimum, (bare_money high_minimum, (bare_any unvalued, tt))))) (not_money low_minimum)

  pub block_lines : (clerk : ℕ) (on : ℤ) (position : ℕ) (measure : Measure) (rows : List Row)
      → HasLines (block_text clerk on position measure rows) (accepted_content lane named k) Says
  block_lines clerk on position measure rows =
      both_lines (heading_text clerk on position (length rows) measure ++ flat_map row_text rows) (total_text measure rows) (accepted_content lane named k) Says
      (both_lines (heading_text clerk on position (length rows) measure) (flat_map row_text rows) (accepted_content lane named k) Says
      (heading_lines clerk on position (length rows) measure) (row_lines rows)) (total_lines rows measure)

  unpinned_lines : (clerk : ℕ) (on : ℤ) (refusal : PinRefusal) → HasLines (run_wording.unpinned clerk on refusal) (accepted_content lane named k) Says
  unpinned_lines clerk on (Ahead count) =
      other_line Says (decimal clerk) (codes "value" ∷ day_text on ∷ reply_fields (PinRefused (Ahead count))) lane named k (bare_any clerk)
      (bare_by (codes "value") refl, (bare_day on, bare_reply (PinRefused (Ahead count)))) (λ is. omega (arith, is))
  unpinned_lines clerk on (Trimmed floor) =
      other_line Says (decimal clerk) (codes "value" ∷ day_text on ∷ reply_fields (PinRefused (Trimmed floor))) lane named k (bare_any clerk)
      (bare_by (codes "value") refl, (bare_day on, bare_reply (PinRefused (Trimmed floor)))) (λ is. omega (arith, is))
  unpinned_lines clerk on PinsFull =
      other_line Says (decimal clerk) (codes "value" ∷ day_text on ∷ reply_fields (PinRefused PinsFull)) lane named k (bare_any clerk)
      (bare_by (codes "value") refl, (bare_day on, bare_reply (PinRefused PinsFull))) (λ is. omega (arith, is))

  unvalued_lines : (clerk : ℕ) (on : ℤ) → HasLines (run_wording.unvalued clerk on) (accepted_content lane named k) Says
  unvalued_lines clerk on =
      other_line Says (decimal clerk) (codes "value" ∷ day_text on ∷ codes "nomemory" ∷ []) lane named k (bare_any clerk)
      (bare_by (codes "value") refl, (bare_day on, (bare_by (codes "nomemory") refl, tt))) (λ is. omega (arith, is))

  trim_lines : (clerk floor : ℕ) → HasLines (run_wording.trim clerk floor) (accepted_content lane named k) Says
  trim_lines clerk floor =
      other_line Says (decimal clerk) (codes "trim" ∷ decimal floor ∷ []) lane named k (bare_any clerk)
      (bare_by (codes "trim") refl, (bare_any floor, tt)) (λ is. omega (arith, is))

-- the same text
text_of : (text other content : List ℕ) (Says : Type 0) → text ≡ other → HasLines other content Says → HasLines text content Says
text_of text other content Says same are = record { lines = are.lines; free = are.free; are = same ∙ are.are; only = are.only }

-- the text of a lane's line contains that of an accepted posting only if it is one
told_lines : (IsRow : ℤ → Policy → Row → Type 0) (clerk : ℕ) (line : Line) (reply : Reply) (commands : List Command) (IsDry : Type 0) (text : List ℕ)
    (lane : ℕ) (named : Command) (k : ℕ) → IsToldText run_wording IsRow clerk line reply commands IsDry text
    → HasLines text (accepted_content lane named k) (SaysAccepted line reply named k)
told_lines IsRow clerk (Post command) reply commands IsDry text lane named k is =
    text_of text (run_wording.posting clerk command reply) (accepted_content lane named k) (SaysAccepted (Post command) reply named k) is
    (posting clerk command reply lane named k)
told_lines IsRow clerk Trim (Floor floor) commands IsDry text lane named k is =
    text_of text (run_wording.trim clerk floor) (accepted_content lane named k) ⊥ is (trim_lines ⊥ lane named k clerk floor)
told_lines IsRow clerk (Value on at workers) (PinRefused refusal) commands IsDry text lane named k is =
    text_of text (run_wording.unpinned clerk on refusal) (accepted_content lane named k) ⊥ is (unpinned_lines ⊥ lane named k clerk on refusal)
told_lines IsRow clerk (Value on at workers) (Pinned position policies) commands IsDry text lane named k is = elim is [
  | inl dry ↦ text_of text (run_wording.unvalued clerk on) (accepted_content lane named k) ⊥ dry.1 (unvalued_lines ⊥ lane named k clerk on)
  | inr rows ↦
      text_of text (run_wording.block clerk on position rows.1.0) (accepted_content lane named k) ⊥ rows.1.2 (block_lines ⊥ lane named k clerk on position Terminal rows.1.0)
]
told_lines IsRow _ _ _ _ _ _ _ _ _ is = absurd is

-- ---- the watchers' reports

report_lines : (reports : List Report) (from : ℕ) (lane : ℕ) (named : Command) (k : ℕ)
    → HasLines (flat_map (λ (numbered : ℕ × Report).
    line_of (codes "watcher") (decimal numbered.0 ∷ decimal numbered.1.seen ∷ decimal numbered.1.tally ∷ [])) (enumerate_from from reports))
    (accepted_content lane named k) ⊥
report_lines [] from lane named k = no_lines (accepted_content lane named k) ⊥
report_lines (report ∷ reports) from lane named k =
    both_lines (line_of (codes "watcher") (decimal from ∷ decimal report.seen ∷ decimal report.tally ∷ []))
    (flat_map (λ (numbered : ℕ × Report).
    line_of (codes "watcher") (decimal numbered.0 ∷ decimal numbered.1.seen ∷ decimal numbered.1.tally ∷ [])) (enumerate_from (from + 1) reports))
    (accepted_content lane named k) ⊥
    (other_line ⊥ (codes "watcher") (decimal from ∷ decimal report.seen ∷ decimal report.tally ∷ []) lane named k (bare_by (codes "watcher") refl)
    (bare_any from, (bare_any report.seen, (bare_any report.tally, tt))) (not_number report.tally))
    (report_lines reports (from + 1) lane named k)

pub reports_lines : (reports : List Report) (lane : ℕ) (named : Command) (k : ℕ) → HasLines (run_wording.reports reports) (accepted_content lane named k) ⊥
reports_lines reports lane named k = report_lines reports 1 lane named k

-- ---- where the line is

pub among_all : (P : List ℕ → Type 0) (front back : List (List ℕ)) (line : List ℕ) (lines : List (List ℕ)) → lines ≡ front ++ line ∷ back
    → AllByRecursion P lines → P line
among_all P front back line lines split all = at front (subst (λ (ls : List (List ℕ)). AllByRecursion P ls) split all)
  where
    at : (front : List (List ℕ)) → AllByRecursion P (front ++ line ∷ back) → P line
    at [] all = all.0
    at (first ∷ front) all = at front all.1

-- no text of lines that say nothing of it has the line
pub none_there : (text content after : List ℕ) (starts : List (List ℕ)) → HasLines text content ⊥ → AllByRecursion IsFree starts → IsFree content
    → text ≡ lines_text starts ++ (content ++ 10 ∷ after) → ⊥
none_there text content after starts has free bare there =
    elim (among has.lines starts [] content after has.free free bare (append-nil (lines_text has.lines) ∙ sym has.are ∙ there)) [
      | inl here ↦ among_all (λ (line : List ℕ). line ≡ content → ⊥) starts here.0 content has.lines here.1 has.only refl
      | inr beyond ↦ nothing (lines_text beyond.rest) beyond.there
    ]
  where
    long : (xs ys zs : List ℕ) → [] ≡ xs ++ (ys ++ 10 ∷ zs) → ⊥
    long xs ys zs same = let none = ap length same in
        omega (arith, none, length-append xs (ys ++ 10 ∷ zs), length-append ys (10 ∷ zs))

    nothing : (front : List ℕ) → [] ≡ front ++ (content ++ 10 ∷ after) → ⊥
    nothing front same = long front content after same

module _ (IsRow : ℤ → Policy → Row → Type 0) (commands : List Command) (history : List Entry) (dry : List ℕ) (lane : ℕ) (named : Command) (k : ℕ) where
  -- the line is that of an answered posting, whose text begins no later
  pub record IsTold (lines : List AnsweredLine) (texts : List (List ℕ)) (upto : ℕ) : Type 0 where
    pub before : List AnsweredLine
    pub one : AnsweredLine
    pub after : List AnsweredLine
    pub split : lines ≡ before ++ one ∷ after
    pub says : SaysAccepted one.line one.first.1.reply named k
    pub begins : length (concat (take (length before) texts)) ≤ upto

  pub find : (lines : List AnsweredLine) (texts : List (List ℕ)) (reports after : List ℕ) (starts : List (List ℕ))
      → AllZip (IsToldLine run_wording IsRow commands history dry) lines texts → HasLines reports (accepted_content lane named k) ⊥
      → AllByRecursion IsFree starts → concat texts ++ reports ≡ lines_text starts ++ (accepted_content lane named k ++ 10 ∷ after)
      → IsTold lines texts (length (lines_text starts))
  find [] [] reports after starts all none free there =
      absurd (none_there reports (accepted_content lane named k) after starts none free (free_accepted lane named k) there)
  find [] (text ∷ texts) reports after starts all none free there = absurd all
  find (line ∷ lines) [] reports after starts all none free there = absurd all
  find (line ∷ lines) (text ∷ texts) reports after starts all none free there =
      found (told_lines IsRow line.clerk line.line line.first.1.reply (commands ++ accepted_of (take line.first.0 history)) _ text lane named k all.0)
      (λ rest are more. find lines texts reports after rest all.1 none are more)
    where
      by : (has : HasLines text (accepted_content lane named k) (SaysAccepted line.line line.first.1.reply named k)) → IsAmong has.lines starts (accepted_content lane named k)
          ⊎ IsBeyond has.lines starts (concat texts ++ reports) (accepted_content lane named k) after
          → ((rest : List (List ℕ)) → AllByRecursion IsFree rest
          → concat texts ++ reports ≡ lines_text rest ++ (accepted_content lane named k ++ 10 ∷ after) → IsTold lines texts (length (lines_text rest))) → IsTold (line ∷ lines) (text ∷ texts) (length (lines_text starts))
      by has (inl here) later = record {
        before = [];
        one = line;
        after = lines;
        split = refl;
        says = among_all (λ (l : List ℕ). l ≡ accepted_content lane named k → SaysAccepted line.line line.first.1.reply named k) starts here.0
            (accepted_content lane named k) has.lines here.1 has.only refl;
        begins = omega arith;
      }
      by has (inr beyond) later =
          let told = later beyond.rest beyond.free beyond.there in
          let long = ap (λ (ls : List (List ℕ)). length (lines_text ls)) beyond.starts_are in
          let parts = ap length (lines_append has.lines beyond.rest) in
          let sum = length-append (lines_text has.lines) (lines_text beyond.rest) in
          let own = ap length has.are in
          let front = length-append text (concat (take (length told.before) texts)) in
          record {
            before = line ∷ told.before;
            one = told.one;
            after = told.after;
            split = ap (λ (ls : List AnsweredLine). line ∷ ls) told.split;
            says = told.says;
            begins = omega (arith, told.begins, long, parts, sum, own, front);
          }

      found : HasLines text (accepted_content lane named k) (SaysAccepted line.line line.first.1.reply named k) → ((rest : List (List ℕ)) → AllByRecursion IsFree rest
          → concat texts ++ reports ≡ lines_text rest ++ (accepted_content lane named k ++ 10 ∷ after) → IsTold lines texts (length (lines_text rest))) → IsTold (line ∷ lines) (text ∷ texts) (length (lines_text starts))
      found has later =
          by has
          (among has.lines starts (concat texts ++ reports) (accepted_content lane named k) after has.free free (free_accepted lane named k)
          (ap (λ (bytes : List ℕ). bytes ++ (concat texts ++ reports)) (sym has.are) ∙ sym (append_assoc text (concat texts) reports) ∙ there))
          later
