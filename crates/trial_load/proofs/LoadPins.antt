-- If callers only posted, no pin is live, so that the next pin is taken
use Rattle.trial_load.proofs.Names.{◌≡◌, ℕ, ◌≤◌, ◌==◌, true, List, [], ◌∷◌, ◌++◌, length, Option, Some, None, filter_map, refl, ap, sym, ◌∙◌, subst, inl, inr, arith, AllByRecursion, cons_option, enumerate_from, range_with_len, eq-eqb, false≢true, Call, PostCall, Pin, PinAt, Read, Unpin, TrimCall, Entry, Reply, Accepted, Refused, Faulted, Pinned, PinRefused, Slice, Unpinned, Floor, Blank, Line, Post, Value, Trim, Lane, Opening, IsDue, IsLegalAfter, live_pin, live_positions, pin_of, pinned_position, AnswersLanes, AnswersLine, AnswersLines, Placed, turns_of, lines_in, IsValidPosting, Has, has_at, has_either, has_enumerate, has_filter, of_all, posts}
use Rattle.policy_types.specs.declared.entry.PinRefusal.{PinRefusal}
use Rattle.policy_types.specs.declared.entry.PinRefusal.TheVariants.{Ahead, Trimmed, PinsFull}
use Rattle.policy_machine.proofs.HistoryGrowth.{live_parts}
use Rattle.trial_load.proofs.LoadTurns.{all_back, all_front}

-- the turns of lanes that only post are postings
line_posts : (dry : List ℕ) (line : Line) (turns : List Placed) → IsValidPosting line → AnswersLine dry line turns → (turn : Placed) → Has turns turn
    → posts turn.1.call ≡ true
line_posts dry (Post command) [] posting answers turn has = absurd has
line_posts dry (Post command) (first ∷ []) posting answers turn (inl same) = ap (λ (t : Placed). posts t.1.call) (sym same) ∙ ap posts answers
line_posts dry (Post command) (first ∷ []) posting answers turn (inr later) = absurd later
line_posts dry (Post command) (first ∷ second ∷ rest) posting answers turn has = absurd answers
line_posts dry (Value on at workers) turns posting answers turn has = absurd posting
line_posts dry Trim turns posting answers turn has = absurd posting

lines_post : (dry : List ℕ) (lines : List Line) (turns : List Placed) → AllByRecursion IsValidPosting lines → AnswersLines dry lines turns
    → (turn : Placed) → Has turns turn → posts turn.1.call ≡ true
lines_post dry [] turns postings answers turn has = absurd (subst (λ (ts : List Placed). Has ts turn) answers has)
lines_post dry (line ∷ lines) turns postings (first, (rest, parts, here, more)) turn has =
    elim (has_either first rest turn (subst (λ (ts : List Placed). Has ts turn) parts has)) [
      | inl in_first ↦ line_posts dry line first postings.0 here turn in_first
      | inr in_rest ↦ lines_post dry lines rest postings.1 more turn in_rest
    ]

pub entries_post : (dry : List ℕ) (history : List Entry) (lanes : List Lane) (callers : List ℕ) → AllByRecursion IsValidPosting (lines_in lanes)
    → AnswersLanes dry history lanes callers → (entry : Entry) → Has history entry → Has callers entry.caller → posts entry.call ≡ true
entries_post dry history [] [] postings answers entry has caller = absurd caller
entries_post dry history [] (c ∷ callers) postings answers entry has caller = absurd answers
entries_post dry history (lane ∷ lanes) [] postings answers entry has caller = absurd caller
entries_post dry history (lane ∷ lanes) (c ∷ callers) postings answers entry has (inl same) =
    let placed = has_enumerate 0 history entry has in
    let turn : Has (turns_of history c) (placed.0, entry) =
    has_filter (λ (turn : Placed). turn.1.caller == c) (enumerate_from 0 history) (placed.0, entry) (eq-eqb entry.caller c (sym same)) placed.1 in
    lines_post dry lane.lines (turns_of history c) (all_front IsValidPosting lane.lines (lines_in lanes) postings) answers.0 (placed.0, entry) turn
entries_post dry history (lane ∷ lanes) (c ∷ callers) postings answers entry has (inr later) =
    entries_post dry history lanes callers (all_back IsValidPosting lane.lines (lines_in lanes) postings) answers.1 entry has later

-- a posting takes no pin
unpinned : (opening : Opening) (before : List Entry) (caller : ℕ) (call : Call) (reply : Reply) → IsDue opening before caller call reply
    → posts call ≡ true → pin_of reply ≡ None
unpinned opening before caller call (Accepted position) due posted = refl
unpinned opening before caller call (Refused refusal) due posted = refl
unpinned opening before caller call (Faulted count) due posted = refl
unpinned opening before caller call (PinRefused refusal) due posted = refl
unpinned opening before caller call (Slice policies) due posted = refl
unpinned opening before caller call Unpinned due posted = refl
unpinned opening before caller call (Floor floor) due posted = refl
unpinned opening before caller call Blank due posted = refl
unpinned opening before caller (PostCall command) (Pinned position policies) due posted = absurd due
unpinned opening before caller Pin (Pinned position policies) due posted = absurd (false≢true posted)
unpinned opening before caller (PinAt p) (Pinned position policies) due posted = absurd (false≢true posted)
unpinned opening before caller (Read pin first) (Pinned position policies) due posted = absurd (false≢true posted)
unpinned opening before caller (Unpin pin) (Pinned position policies) due posted = absurd (false≢true posted)
unpinned opening before caller TrimCall (Pinned position policies) due posted = absurd (false≢true posted)

none_pinned : (opening : Opening) (before history : List Entry) → IsLegalAfter opening before history → ((entry : Entry) → Has history entry → posts entry.call ≡ true)
    → AllByRecursion (λ (entry : Entry). pin_of entry.reply ≡ None) history
none_pinned opening before [] legal all = tt
none_pinned opening before (entry ∷ history) legal all = (
  unpinned opening before entry.caller entry.call entry.reply legal.0 (all entry (inl refl)),
  none_pinned opening (before ++ entry ∷ []) history legal.1 (λ other has. all other (inr has)),
)

none_kept : {A B : Type 0} (f : A → Option B) (xs : List A) → ((x : A) → f x ≡ None) → filter_map f xs ≡ []
none_kept f [] each = refl
none_kept f (x ∷ xs) each = ap (λ first. cons_option first (filter_map f xs)) (each x) ∙ none_kept f xs each

no_live : (history : List Entry) → AllByRecursion (λ (entry : Entry). pin_of entry.reply ≡ None) history → live_positions history ≡ []
no_live history none = none_kept (λ pin. pinned_position (live_pin history pin)) (range_with_len 0 (length history)) (λ pin. by pin (live_pin history pin) refl)
  where
    by : (pin : ℕ) (live : Option (ℕ × ℕ)) → live_pin history pin ≡ live → pinned_position (live_pin history pin) ≡ None
    by pin None is = ap pinned_position is
    by pin (Some held) is =
        let parts = live_parts history pin held is in
        let unheld = of_all (λ (entry : Entry). pin_of entry.reply ≡ None) history parts.entry none (has_at history pin parts.entry parts.found) in
        let clash : ◌≡◌ {A = Option (ℕ × ℕ)} None (Some held) = sym unheld ∙ parts.pinned in
        absurd (cc)

-- so the next pin isn't refused
pub not_full : (opening : Opening) (history : List Entry) (caller : ℕ) (refusal : PinRefusal) → IsLegalAfter opening [] history
    → ((entry : Entry) → Has history entry → posts entry.call ≡ true) → IsDue opening history caller Pin (PinRefused refusal) → ⊥
not_full opening history caller PinsFull legal all due =
    let none = ap (λ (ns : List ℕ). length ns) (no_live history (none_pinned opening [] history legal all)) in
    let full : 16 ≤ length (live_positions history) = due in
    omega (arith, none, full)
not_full opening history caller (Ahead count) legal all due = due
not_full opening history caller (Trimmed floor) legal all due = due
