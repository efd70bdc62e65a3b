-- The tallies of one more line
use Rattle.lane_runner.proofs.Names.{◌≡◌, ℕ, ◌+◌, ◌||◌, Bool, true, false, List, [], ◌∷◌, ◌++◌, refl, ap, sym, ◌∙◌, subst, count_by, list_any, TranscriptLine, has_faulted, lacks_memory, tells_accepted, tells_refused, AreTallied}
use Rattle.std.proofs.lemmas.List.Folds.{list_any-append}
use Rattle.std.proofs.lemmas.List.Sums.{sum_by_push}
use Rattle.std.proofs.Math.Bool.{cond}
use mir.Val.{bool_byte}

one_if : (b : Bool) → cond b 1 0 ≡ bool_byte b
one_if true = refl
one_if false = refl

or_none : (b : Bool) → b ≡ (b || false)
or_none true = refl
or_none false = refl

module _ (test : TranscriptLine → Bool) (lines : List TranscriptLine) (told : TranscriptLine) where
  counted_more : (count : ℕ) (one : Bool) → count ≡ count_by test lines → one ≡ test told
      → count + bool_byte one ≡ count_by test (lines ++ told ∷ [])
  counted_more count one so_far is =
      ap (λ n. n + bool_byte one) so_far ∙ ap (λ n. count_by test lines + n) (ap bool_byte is ∙ sym (one_if (test told)))
      ∙ sym (sum_by_push (λ (line : TranscriptLine). cond (test line) 1 0) lines told)

  found_more : (found one : Bool) → found ≡ list_any test lines → one ≡ test told → (found || one) ≡ list_any test (lines ++ told ∷ [])
  found_more found one so_far is =
      ap (λ b. b || one) so_far ∙ ap (λ b. list_any test lines || b) (is ∙ or_none (test told))
      ∙ sym (list_any-append test lines (told ∷ []))

-- what is tallied of the lines, and of one more, is that of all
pub tallied_more : (lines news : List TranscriptLine) (told : TranscriptLine) (accepted refused : ℕ) (faulted lacked : Bool)
    (accepts refuses faults lacks : Bool) → AreTallied lines accepted refused faulted lacked
    → accepts ≡ tells_accepted told.outcome → refuses ≡ tells_refused told.outcome
    → faults ≡ has_faulted told.outcome → lacks ≡ lacks_memory told.outcome
    → news ≡ lines ++ told ∷ []
    → AreTallied news (accepted + bool_byte accepts) (refused + bool_byte refuses) (faulted || faults) (lacked || lacks)
tallied_more lines news told accepted refused faulted lacked accepts refuses faults lacks so_far one other third last more =
    subst (λ (all : List TranscriptLine). AreTallied all (accepted + bool_byte accepts) (refused + bool_byte refuses) (faulted || faults) (lacked || lacks))
    (sym more) (record {
      accepted_is = counted_more (λ (line : TranscriptLine). tells_accepted line.outcome) lines told accepted accepts so_far.accepted_is one;
      refused_is = counted_more (λ (line : TranscriptLine). tells_refused line.outcome) lines told refused refuses so_far.refused_is other;
      faulted_is = found_more (λ (line : TranscriptLine). has_faulted line.outcome) lines told faulted faults so_far.faulted_is third;
      lacked_is = found_more (λ (line : TranscriptLine). lacks_memory line.outcome) lines told lacked lacks so_far.lacked_is last;
    })
