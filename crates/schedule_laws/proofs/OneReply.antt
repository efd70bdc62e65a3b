-- The reply that is due, as a function of the turns before
use Rattle.schedule_laws.proofs.Names.{◌≡◌, ℕ, ◌+◌, ◌≤◌, ◌<◌, Bool, true, false, cond, nat_lt, nat_le, List, length, take, drop, refl, sym, ap, ◌∙◌, Some, None, Option, arith, book, Opening, IsDue, commands_after, floor_of, least_or, live_pin, live_positions, most_pins, policies_per_read, refusal_due, read_due}
use Rattle.policy_types.specs.declared.command.Command.{Command}
use Rattle.policy_types.specs.declared.refusal.Refusal.{Refusal}
use Rattle.policy_types.specs.declared.entry.Call.{Call}
use Rattle.policy_types.specs.declared.entry.Call.TheVariants.{Post, Pin, PinAt, Read, Unpin, Trim}
use Rattle.policy_types.specs.declared.entry.Reply.{Reply}
use Rattle.policy_types.specs.declared.entry.Reply.TheVariants.{Accepted, Refused, Faulted, Pinned, PinRefused, Slice as Policies, Unpinned, Floor, Blank}
use Rattle.policy_types.specs.declared.entry.PinRefusal.TheVariants.{Ahead, Trimmed, PinsFull}
use Rattle.policy_types.specs.declared.entry.Entry.{Entry}
use Rattle.schedule_laws.specs.Replies.{PostsNothing, MayCall}

-- sixteen pins are live
abbrev full : List Entry → Bool
full before = nat_le most_pins (length (live_positions before))

abbrev count : Opening → List Entry → ℕ
count opening before = length (commands_after opening before)

-- the pin at a position, if it isn't refused
abbrev pin_there : Opening → List Entry → ℕ → Reply
pin_there opening before p =
    cond (full before) (PinRefused PinsFull) (Pinned p (length (book (take p (commands_after opening before)))))

abbrev pin_at : Opening → List Entry → ℕ → Reply
pin_at opening before p =
    cond (nat_lt (count opening before) p) (PinRefused (Ahead (count opening before)))
    (cond (nat_lt p (floor_of before)) (PinRefused (Trimmed (floor_of before))) (pin_there opening before p))

abbrev pin_now : Opening → List Entry → Reply
pin_now opening before =
    cond (full before) (PinRefused PinsFull) (Pinned (count opening before) (length (book (commands_after opening before))))

chosen : {X : Type 0} (b : Bool) (x y : X) → b ≡ true → x ≡ cond b x y
chosen b x y same = ap (λ c. cond c x y) (sym same)

other_chosen : {X : Type 0} (b : Bool) (x y : X) → b ≡ false → y ≡ cond b x y
other_chosen b x y same = ap (λ c. cond c x y) (sym same)

less : (a b : ℕ) → a < b → nat_lt a b ≡ true
less a b holds = grind arith

not_less : (a b : ℕ) → b ≤ a → nat_lt a b ≡ false
not_less a b holds = grind arith

at_most : (a b : ℕ) → a ≤ b → nat_le a b ≡ true
at_most a b holds = grind arith

above : (a b : ℕ) → b < a → nat_le a b ≡ false
above a b holds = grind arith

due_now : (opening : Opening) (before : List Entry) (caller : ℕ) (reply : Reply) → IsDue opening before caller Pin reply
    → reply ≡ pin_now opening before
due_now opening before caller (PinRefused PinsFull) due = chosen (full before) _ _ (at_most most_pins (length (live_positions before)) due)
due_now opening before caller (PinRefused (Ahead n)) due = absurd due
due_now opening before caller (PinRefused (Trimmed n)) due = absurd due
due_now opening before caller (Pinned position policies) due =
    ap (λ p. Pinned p policies) due.1 ∙ ap (Pinned (count opening before)) due.2
    ∙ other_chosen (full before) _ _ (above most_pins (length (live_positions before)) due.0)
due_now opening before caller (Accepted n) due = absurd due
due_now opening before caller (Refused refusal) due = absurd due
due_now opening before caller (Faulted n) due = absurd due
due_now opening before caller (Policies policies) due = absurd due
due_now opening before caller Unpinned due = absurd due
due_now opening before caller (Floor n) due = absurd due
due_now opening before caller Blank due = absurd due

-- at a position that is neither ahead nor trimmed
due_there : (opening : Opening) (before : List Entry) (p : ℕ) (reply : Reply) → p ≤ count opening before → floor_of before ≤ p
    → reply ≡ pin_there opening before p → reply ≡ pin_at opening before p
due_there opening before p reply reached kept there =
    there
    ∙ other_chosen (nat_lt p (floor_of before)) (PinRefused (Trimmed (floor_of before))) (pin_there opening before p) (not_less p (floor_of before) kept)
    ∙ other_chosen (nat_lt (count opening before) p) (PinRefused (Ahead (count opening before))) _ (not_less (count opening before) p reached)

due_at : (opening : Opening) (before : List Entry) (caller p : ℕ) (reply : Reply) → IsDue opening before caller (PinAt p) reply
    → reply ≡ pin_at opening before p
due_at opening before caller p (PinRefused (Ahead n)) due =
    ap (λ m. PinRefused (Ahead m)) due.1 ∙ chosen (nat_lt (count opening before) p) _ _ (less (count opening before) p due.0)
due_at opening before caller p (PinRefused (Trimmed n)) due =
    ap (λ m. PinRefused (Trimmed m)) due.2
    ∙ chosen (nat_lt p (floor_of before)) _ (pin_there opening before p) (less p (floor_of before) due.1)
    ∙ other_chosen (nat_lt (count opening before) p) (PinRefused (Ahead (count opening before))) _ (not_less (count opening before) p due.0)
due_at opening before caller p (PinRefused PinsFull) due =
    due_there opening before p (PinRefused PinsFull) due.0 due.1
    (chosen (full before) _ _ (at_most most_pins (length (live_positions before)) due.2))
due_at opening before caller p (Pinned position policies) due =
    due_there opening before p (Pinned position policies) due.0 due.1
    (ap (λ q. Pinned q policies) due.3 ∙ ap (Pinned p) due.4
    ∙ other_chosen (full before) _ _ (above most_pins (length (live_positions before)) due.2))
due_at opening before caller p (Accepted n) due = absurd due
due_at opening before caller p (Refused refusal) due = absurd due
due_at opening before caller p (Faulted n) due = absurd due
due_at opening before caller p (Policies policies) due = absurd due
due_at opening before caller p Unpinned due = absurd due
due_at opening before caller p (Floor n) due = absurd due
due_at opening before caller p Blank due = absurd due

due_trim : (opening : Opening) (before : List Entry) (caller : ℕ) (reply : Reply) → IsDue opening before caller Trim reply
    → reply ≡ Floor (least_or (count opening before) (live_positions before))
due_trim opening before caller (Floor n) due = ap Floor due
due_trim opening before caller (PinRefused refusal) due = absurd due
due_trim opening before caller (Pinned position policies) due = absurd due
due_trim opening before caller (Accepted n) due = absurd due
due_trim opening before caller (Refused refusal) due = absurd due
due_trim opening before caller (Faulted n) due = absurd due
due_trim opening before caller (Policies policies) due = absurd due
due_trim opening before caller Unpinned due = absurd due
due_trim opening before caller Blank due = absurd due

due_unpin : (opening : Opening) (before : List Entry) (caller pin : ℕ) (reply : Reply) → IsDue opening before caller (Unpin pin) reply
    → reply ≡ Unpinned
due_unpin opening before caller pin Unpinned due = refl
due_unpin opening before caller pin (PinRefused refusal) due = absurd due
due_unpin opening before caller pin (Pinned position policies) due = absurd due
due_unpin opening before caller pin (Accepted n) due = absurd due
due_unpin opening before caller pin (Refused refusal) due = absurd due
due_unpin opening before caller pin (Faulted n) due = absurd due
due_unpin opening before caller pin (Policies policies) due = absurd due
due_unpin opening before caller pin (Floor n) due = absurd due
due_unpin opening before caller pin Blank due = absurd due

same_position : (live : Option (ℕ × ℕ)) (one other more some : ℕ) → live ≡ Some (one, more) → live ≡ Some (other, some) → one ≡ other
same_position live one other more some first second =
    let same : ◌≡◌ {A = Option (ℕ × ℕ)} (Some (one, more)) (Some (other, some)) = sym first ∙ second in grind arith

one_read : (opening : Opening) (before : List Entry) (caller pin first : ℕ) (one other : Reply)
    → IsDue opening before caller (Read pin first) one → IsDue opening before caller (Read pin first) other → one ≡ other
one_read opening before caller pin first one other due due_too =
    let read = read_due opening before caller pin first one due in
    let read_too = read_due opening before caller pin first other due_too in
    let place : read.position ≡ read_too.position =
    same_position (live_pin before pin) read.position read_too.position read.policies read_too.policies read.live read_too.live in
    read.read
    ∙ ap (λ p. Policies (take policies_per_read (drop first (book (take p (commands_after opening before)))))) place
    ∙ sym read_too.read

pub one_reply : (opening : Opening) (before : List Entry) (caller : ℕ) (call : Call) (one other : Reply) → PostsNothing call
    → IsDue opening before caller call one → IsDue opening before caller call other → one ≡ other
one_reply opening before caller (Post command) one other posts due due_too = absurd posts
one_reply opening before caller Pin one other posts due due_too =
    due_now opening before caller one due ∙ sym (due_now opening before caller other due_too)
one_reply opening before caller (PinAt p) one other posts due due_too =
    due_at opening before caller p one due ∙ sym (due_at opening before caller p other due_too)
one_reply opening before caller (Read pin first) one other posts due due_too =
    one_read opening before caller pin first one other due due_too
one_reply opening before caller (Unpin pin) one other posts due due_too =
    due_unpin opening before caller pin one due ∙ sym (due_unpin opening before caller pin other due_too)
one_reply opening before caller Trim one other posts due due_too =
    due_trim opening before caller one due ∙ sym (due_trim opening before caller other due_too)

pub one_refusal : (due : Option Refusal) (one other : Refusal) → due ≡ Some one → due ≡ Some other → one ≡ other
one_refusal due one other first second = let same : Some one ≡ Some other = sym first ∙ second in grind arith

pub no_refusal : (due : Option Refusal) (refusal : Refusal) → due ≡ Some refusal → due ≡ None → ⊥
no_refusal due refusal some none = let same : Some refusal ≡ None = sym some ∙ none in grind arith

-- a reply to each call
posted : (opening : Opening) (before : List Entry) (caller : ℕ) (command : Command)
    → (reply : Reply) × IsDue opening before caller (Post command) reply
posted opening before caller command = by_refusal (refusal_due (commands_after opening before) command) refl
  where
    by_refusal : (due : Option Refusal) → refusal_due (commands_after opening before) command ≡ due
        → (reply : Reply) × IsDue opening before caller (Post command) reply
    by_refusal (Some refusal) due = (Refused refusal, due)
    by_refusal None due = (Accepted (count opening before + 1), (due, refl))

pinned_now : (opening : Opening) (before : List Entry) (caller : ℕ) → (reply : Reply) × IsDue opening before caller Pin reply
pinned_now opening before caller = by_full (full before) refl
  where
    by_full : (b : Bool) → full before ≡ b → (reply : Reply) × IsDue opening before caller Pin reply
    by_full true many = (PinRefused PinsFull, grind arith)
    by_full false few = (Pinned (count opening before) (length (book (commands_after opening before))), (grind arith, refl, refl))

pinned_at : (opening : Opening) (before : List Entry) (caller p : ℕ) → (reply : Reply) × IsDue opening before caller (PinAt p) reply
pinned_at opening before caller p = by_count (nat_lt (count opening before) p) refl
  where
    by_full : (b : Bool) → full before ≡ b → p ≤ count opening before → floor_of before ≤ p
        → (reply : Reply) × IsDue opening before caller (PinAt p) reply
    by_full true many reached kept = (PinRefused PinsFull, (reached, kept, grind arith))
    by_full false few reached kept =
        (Pinned p (length (book (take p (commands_after opening before)))), (reached, kept, grind arith, refl, refl))

    by_floor : (b : Bool) → nat_lt p (floor_of before) ≡ b → p ≤ count opening before
        → (reply : Reply) × IsDue opening before caller (PinAt p) reply
    by_floor true below reached = (PinRefused (Trimmed (floor_of before)), (reached, grind arith, refl))
    by_floor false kept reached = by_full (full before) refl reached (grind arith)

    by_count : (b : Bool) → nat_lt (count opening before) p ≡ b → (reply : Reply) × IsDue opening before caller (PinAt p) reply
    by_count true ahead = (PinRefused (Ahead (count opening before)), (grind arith, refl))
    by_count false reached = by_floor (nat_lt p (floor_of before)) refl (grind arith)

pub some_reply : (opening : Opening) (before : List Entry) (caller : ℕ) (call : Call) → MayCall before caller call
    → (reply : Reply) × IsDue opening before caller call reply
some_reply opening before caller (Post command) may = posted opening before caller command
some_reply opening before caller Pin may = pinned_now opening before caller
some_reply opening before caller (PinAt p) may = pinned_at opening before caller p
some_reply opening before caller (Read pin first) may = (
  Policies (take policies_per_read (drop first (book (take may.0.0 (commands_after opening before))))),
  (may.0, may.1, may.2, may.3, refl),
)
some_reply opening before caller (Unpin pin) may = (Unpinned, may)
some_reply opening before caller Trim may = (Floor (least_or (count opening before) (live_positions before)), refl)
