-- The text of what is reported of answered lines is that of the lines
use Rattle.transcript_text.proofs.Names.{◌≡◌, ◌↔◌, ℕ, ℤ, true, List, [], ◌∷◌, map, take, refl, ap, ap₂, sym, ◌∙◌, subst, inl, inr, AllZip, Contains, false≢true, Dated, IsDay, Command, Entry, Reply, Line, Opening, commands_after, AnsweredLine, AreDry, IsOutcome, IsToldOf, lacked_memory, TranscriptLine, Outcome, Posted, Trimmed, Valued, ValueRefused, ValueNoMemory, IsLineText, IsReplyText, IsValuedText, posting_text, unpinned_text, unvalued_text, IsWritableOutcome, outcome_text, told_text}
use Rattle.policy_types.specs.declared.entry.At.{At}
use Rattle.policy_types.specs.declared.script.Line.TheVariants.{Post, Value, Trim}
use Rattle.report_text.specs.Block.{block_text}

-- a valuation that can be written is on a day
pub value_day : (on : ℤ) (at : At) (workers : ℕ) (outcome : Outcome) → IsWritableOutcome (Value on at workers) outcome → IsDay on
value_day on at workers (ValueRefused refusal) can = can
value_day on at workers (Valued valuation) can = can.0
value_day on at workers (ValueNoMemory lack) can = can
value_day on at workers (Posted answer) can = absurd can
value_day on at workers (Trimmed floor) can = absurd can

reply_text : (clerk : ℕ) (line : Line) (reply : Reply) (outcome : Outcome) (commands : List Command) (basis : List Dated) (IsDry : Type 0)
    → IsOutcome commands basis line reply outcome → (IsDry ↔ (lacked_memory outcome ≡ true))
    → IsReplyText clerk line reply commands basis IsDry (outcome_text clerk line outcome)
reply_text clerk (Post command) reply (Posted answer) commands basis IsDry told dry = ap (posting_text clerk command) (sym told)
reply_text clerk Trim reply (Trimmed floor) commands basis IsDry told dry =
    subst (λ (r : Reply). IsReplyText clerk Trim r commands basis IsDry (outcome_text clerk Trim (Trimmed floor))) (sym told) refl
reply_text clerk (Value on at workers) reply (ValueRefused refusal) commands basis IsDry told dry =
    subst (λ (r : Reply). IsReplyText clerk (Value on at workers) r commands basis IsDry (unpinned_text clerk on refusal)) (sym told) refl
reply_text clerk (Value on at workers) reply (Valued valuation) commands basis IsDry (position, (policies, pinned, snapshot)) dry =
    let valued : IsValuedText clerk on commands basis position IsDry (block_text clerk on valuation.value.position valuation.value.measure valuation.value.rows) =
    inr (
      λ is. absurd (false≢true (dry.0 is)),
      (valuation.value.rows, snapshot.rows.each, ap₂ (λ p m. block_text clerk on p m valuation.value.rows) snapshot.pinned snapshot.measured),
    ) in
    subst (λ (r : Reply). IsReplyText clerk (Value on at workers) r commands basis IsDry (block_text clerk on valuation.value.position valuation.value.measure valuation.value.rows)) (sym pinned) valued
reply_text clerk (Value on at workers) reply (ValueNoMemory lack) commands basis IsDry (position, (policies, pinned)) dry =
    subst (λ (r : Reply). IsReplyText clerk (Value on at workers) r commands basis IsDry (unvalued_text clerk on)) (sym pinned) (inl (dry.1 refl, refl))
reply_text clerk (Post command) reply (Trimmed floor) commands basis IsDry told dry = absurd told
reply_text clerk (Post command) reply (Valued valuation) commands basis IsDry told dry = absurd told
reply_text clerk (Post command) reply (ValueRefused refusal) commands basis IsDry told dry = absurd told
reply_text clerk (Post command) reply (ValueNoMemory lack) commands basis IsDry told dry = absurd told
reply_text clerk Trim reply (Posted answer) commands basis IsDry told dry = absurd told
reply_text clerk Trim reply (Valued valuation) commands basis IsDry told dry = absurd told
reply_text clerk Trim reply (ValueRefused refusal) commands basis IsDry told dry = absurd told
reply_text clerk Trim reply (ValueNoMemory lack) commands basis IsDry told dry = absurd told
reply_text clerk (Value on at workers) reply (Posted answer) commands basis IsDry told dry = absurd told
reply_text clerk (Value on at workers) reply (Trimmed floor) commands basis IsDry told dry = absurd told

module _ (opening : Opening) (history : List Entry) (basis : List Dated) (dry : List ℕ) where
  line_text : (answered : AnsweredLine) (told : TranscriptLine) → IsToldOf opening history basis answered told
      → (Contains dry told.turn ↔ (lacked_memory told.outcome ≡ true)) → IsLineText opening history basis dry answered (told_text told)
  line_text answered told is lacked =
      let commands = commands_after opening (take answered.first.0 history) in
      let dry_there : Contains dry answered.first.0 ↔ (lacked_memory told.outcome ≡ true) =
      subst (λ n. Contains dry n ↔ (lacked_memory told.outcome ≡ true)) is.turn lacked in
      let text = reply_text answered.clerk answered.line answered.first.1.reply told.outcome commands basis (Contains dry answered.first.0) is.outcome dry_there in
      let same : told_text told ≡ outcome_text answered.clerk answered.line told.outcome =
      ap (λ n. outcome_text n told.line told.outcome) is.lane ∙ ap (λ l. outcome_text answered.clerk l told.outcome) is.line in
      subst (IsLineText opening history basis dry answered) (sym same) text

  pub texts_of : (answered : List AnsweredLine) (told : List TranscriptLine) → AllZip (IsToldOf opening history basis) answered told
      → AreDry dry told → AllZip (IsLineText opening history basis dry) answered (map told_text told)
  texts_of [] [] all lacked = tt
  texts_of [] (one ∷ told) all lacked = absurd all
  texts_of (one ∷ answered) [] all lacked = absurd all
  texts_of (answer ∷ answered) (one ∷ told) all lacked =
      (line_text answer one all.0 lacked.0, texts_of answered told all.1 lacked.1)
