-- The turns of a legal history, and which of them are postings
use Rattle.program_endings.proofs.Names.{◌≡◌, ℕ, zero, suc, ◌*◌, Bool, true, false, List, [], ◌∷◌, ◌++◌, map, take, Some, refl, ap, sym, ◌∙◌, subst, inl, inr, append-nil, append_assoc, slice_get, AllByRecursion, false≢true, Command, Call, Post, Pin, PinAt, Read, Unpin, TrimCall, Reply, Accepted, Refused, Faulted, Pinned, PinRefused, Slice, Unpinned, Floor, Blank, Entry, Opening, IsDue, IsLegalAfter}
use Rattle.policy_types.specs.declared.entry.At.{At}
use Rattle.policy_types.specs.declared.entry.At.TheVariants.{Now, Position}
use Rattle.policy_types.specs.declared.script.Line.{Line}
use Rattle.policy_types.specs.declared.script.Line.TheVariants.{Post as PostLine, Value, Trim}
use Rattle.policy_machine.specs.Merge.{AnswersLine, FollowsPin, Placed, pin_call, reads_of}
use Rattle.office_state.proofs.Holdings.{IsQuietReply}
use Rattle.program_endings.proofs.ReplyNames.{IsAnswered, IsUnfaulted}
use Rattle.program_endings.proofs.ListSteps.{Has, all_and, all_map, all_take, of_all}

-- whether the call posts a command
abbrev pub posts : Call → Bool
posts (Post command) = true
posts _ = false

-- the reply at a place is the one due after the turns before it
pub due_at : (opening : Opening) (before rest : List Entry) (k : ℕ) (entry : Entry) → IsLegalAfter opening before rest
    → slice_get rest k ≡ Some entry → IsDue opening (before ++ take k rest) entry.caller entry.call entry.reply
due_at opening before [] k entry legal here = absurd (cc)
due_at opening before (first ∷ rest) zero entry legal here =
    let same : first ≡ entry = cc in
    subst (λ (e : Entry). IsDue opening (before ++ []) e.caller e.call e.reply) same
    (subst (λ (b : List Entry). IsDue opening b first.caller first.call first.reply) (sym (append-nil before)) legal.0)
due_at opening before (first ∷ rest) (suc k) entry legal here =
    subst (λ (b : List Entry). IsDue opening b entry.caller entry.call entry.reply) (append_assoc before (first ∷ []) (take k rest))
    (due_at opening (before ++ first ∷ []) rest k entry legal.1 here)

-- a reply that is due to no posting is neither a fault nor blank
pub quiet_reply : (opening : Opening) (before : List Entry) (caller : ℕ) (call : Call) (reply : Reply) → IsDue opening before caller call reply
    → posts call ≡ false → IsAnswered reply
quiet_reply opening before caller call (Accepted position) due quiet = (refl, λ no. cc)
quiet_reply opening before caller call (Refused refusal) due quiet = (refl, λ no. cc)
quiet_reply opening before caller call (Pinned position policies) due quiet = (refl, λ no. cc)
quiet_reply opening before caller call (PinRefused refusal) due quiet = (refl, λ no. cc)
quiet_reply opening before caller call (Slice policies) due quiet = (refl, λ no. cc)
quiet_reply opening before caller call Unpinned due quiet = (refl, λ no. cc)
quiet_reply opening before caller call (Floor floor) due quiet = (refl, λ no. cc)
quiet_reply opening before caller (Post command) (Faulted count) due quiet = absurd (false≢true (sym quiet))
quiet_reply opening before caller (Post command) Blank due quiet = absurd (false≢true (sym quiet))
quiet_reply opening before caller Pin (Faulted count) due quiet = absurd due
quiet_reply opening before caller (PinAt p) (Faulted count) due quiet = absurd due
quiet_reply opening before caller (Read pin first) (Faulted count) due quiet = absurd due
quiet_reply opening before caller (Unpin pin) (Faulted count) due quiet = absurd due
quiet_reply opening before caller TrimCall (Faulted count) due quiet = absurd due
quiet_reply opening before caller Pin Blank due quiet = absurd due
quiet_reply opening before caller (PinAt p) Blank due quiet = absurd due
quiet_reply opening before caller (Read pin first) Blank due quiet = absurd due
quiet_reply opening before caller (Unpin pin) Blank due quiet = absurd due
quiet_reply opening before caller TrimCall Blank due quiet = absurd due

-- and it isn't that of an accepted posting
pub unposted_reply : (opening : Opening) (before : List Entry) (caller : ℕ) (call : Call) (reply : Reply) → IsDue opening before caller call reply
    → posts call ≡ false → IsQuietReply reply
unposted_reply opening before caller call (Refused refusal) due quiet = (refl, λ position no. cc)
unposted_reply opening before caller call (Pinned position policies) due quiet = (refl, λ position no. cc)
unposted_reply opening before caller call (PinRefused refusal) due quiet = (refl, λ position no. cc)
unposted_reply opening before caller call (Slice policies) due quiet = (refl, λ position no. cc)
unposted_reply opening before caller call Unpinned due quiet = (refl, λ position no. cc)
unposted_reply opening before caller call (Floor floor) due quiet = (refl, λ position no. cc)
unposted_reply opening before caller call Blank due quiet = (refl, λ position no. cc)
unposted_reply opening before caller (Post command) (Faulted count) due quiet = absurd (false≢true (sym quiet))
unposted_reply opening before caller Pin (Faulted count) due quiet = absurd due
unposted_reply opening before caller (PinAt p) (Faulted count) due quiet = absurd due
unposted_reply opening before caller (Read pin first) (Faulted count) due quiet = absurd due
unposted_reply opening before caller (Unpin pin) (Faulted count) due quiet = absurd due
unposted_reply opening before caller TrimCall (Faulted count) due quiet = absurd due
unposted_reply opening before caller (Post command) (Accepted position) due quiet = absurd (false≢true (sym quiet))
unposted_reply opening before caller Pin (Accepted position) due quiet = absurd due
unposted_reply opening before caller (PinAt p) (Accepted position) due quiet = absurd due
unposted_reply opening before caller (Read pin first) (Accepted position) due quiet = absurd due
unposted_reply opening before caller (Unpin pin) (Accepted position) due quiet = absurd due
unposted_reply opening before caller TrimCall (Accepted position) due quiet = absurd due

-- a reply that is no fault and not blank is no fault
pub unfaulted_if_answered : (reply : Reply) → IsAnswered reply → IsUnfaulted reply
unfaulted_if_answered reply answered = answered.0

-- What follows the pin of a valuation posts nothing.
quiet_reads : (pin policies k : ℕ) → AllByRecursion (λ (call : Call). posts call ≡ false) (take k (reads_of pin policies))
quiet_reads pin policies k =
    all_take (λ (call : Call). posts call ≡ false) k (reads_of pin policies)
    (all_map (λ (call : Call). posts call ≡ false) (λ n. Read pin (256 * n)) _ (λ n. refl))

pub quiet_follow : (dry : List ℕ) (pin : ℕ) (reply : Reply) (calls : List Call) → FollowsPin dry pin reply calls
    → AllByRecursion (λ (call : Call). posts call ≡ false) calls
quiet_follow dry pin (PinRefused refusal) calls follows = subst (AllByRecursion (λ (call : Call). posts call ≡ false)) (sym follows) tt
quiet_follow dry pin (Pinned position policies) calls follows =
    subst (AllByRecursion (λ (call : Call). posts call ≡ false)) (sym follows.1)
    (all_and (λ (call : Call). posts call ≡ false) (take follows.0 (reads_of pin policies)) (Unpin pin ∷ []) (quiet_reads pin policies follows.0) (refl, tt))
quiet_follow dry pin (Accepted position) calls follows = absurd follows
quiet_follow dry pin (Refused refusal) calls follows = absurd follows
quiet_follow dry pin (Faulted count) calls follows = absurd follows
quiet_follow dry pin (Slice policies) calls follows = absurd follows
quiet_follow dry pin Unpinned calls follows = absurd follows
quiet_follow dry pin (Floor floor) calls follows = absurd follows
quiet_follow dry pin Blank calls follows = absurd follows

pub quiet_pin : (at : At) → posts (pin_call at) ≡ false
quiet_pin Now = refl
quiet_pin (Position p) = refl

pub quiet_turns : (turns : List Placed) → AllByRecursion (λ (call : Call). posts call ≡ false) (map (λ (turn : Placed). turn.1.call) turns)
    → AllByRecursion (λ (turn : Placed). posts turn.1.call ≡ false) turns
quiet_turns [] quiet = tt
quiet_turns (turn ∷ turns) quiet = (quiet.0, quiet_turns turns quiet.1)

-- a posting among the turns of a line is its first, and the line's
pub posted_first : (dry : List ℕ) (line : Line) (first : Placed) (rest : List Placed) (turn : Placed) → AnswersLine dry line (first ∷ rest)
    → Has (first ∷ rest) turn → posts turn.1.call ≡ true → (first ≡ turn) × ((command : Command) × (line ≡ PostLine command))
posted_first dry (PostLine command) first [] turn answers (inl same) posted = (same, (command, refl))
posted_first dry (PostLine command) first [] turn answers (inr later) posted = absurd later
posted_first dry (PostLine command) first (second ∷ rest) turn answers has posted = absurd answers
posted_first dry Trim first [] turn answers (inl same) posted =
    let trims : turn.1.call ≡ TrimCall = ap (λ (t : Placed). t.1.call) (sym same) ∙ answers in
    absurd (false≢true (sym (ap posts trims) ∙ posted))
posted_first dry Trim first [] turn answers (inr later) posted = absurd later
posted_first dry Trim first (second ∷ rest) turn answers has posted = absurd answers
posted_first dry (Value on at workers) first rest turn answers (inl same) posted =
    let pins : turn.1.call ≡ pin_call at = ap (λ (t : Placed). t.1.call) (sym same) ∙ answers.0 in
    absurd (false≢true (sym (ap posts pins ∙ quiet_pin at) ∙ posted))
posted_first dry (Value on at workers) first rest turn answers (inr later) posted =
    let quiet = of_all (λ (t : Placed). posts t.1.call ≡ false) rest turn
    (quiet_turns rest (quiet_follow dry first.0 first.1.reply (map (λ (t : Placed). t.1.call) rest) answers.1)) later in
    absurd (false≢true (sym quiet ∙ posted))
