-- What becomes of a text that is gathered before it is written
use Rattle.lane_runner.proofs.Names.{◌≡◌, ℕ, zero, suc, ◌+◌, ◌≤◌, ◌<◌, List, [], ◌∷◌, ◌++◌, length, take, Option, Some, None, Err, refl, ap, sym, ◌∙◌, subst, append-nil, append_assoc, length-append, arith, AppendsPart, TranscriptLine, WriteFault, NoMemory, HasEnded, line_texts, HasPutOut}
use Rattle.memory_requests.specs.Evidence.{a_refusal}
use Rattle.std.specs.Io.KnownBytes.{Appends}
use Rattle.std.proofs.KnownBytes.{Appends-nil, Appends-trans}
use Rattle.outside_io.specs.Faults.{Rose}
use Rattle.office_state.proofs.HistorySteps.{rose_since}
use Rattle.lane_runner.specs.declared.wording.Unwritten.{Unwritten}
use Rattle.lane_runner.proofs.TakeSteps.{texts_push}

pub take_front : {A : Type 0} (n : ℕ) (xs ys : List A) → n ≤ length xs → take n (xs ++ ys) ≡ take n xs
take_front zero xs ys short = refl
take_front (suc n) [] ys short = absurd (omega arith)
take_front (suc n) (x ∷ xs) ys short = ap (λ rest. x ∷ rest) (take_front n xs ys (omega arith))

pub take_past : {A : Type 0} (xs ys : List A) (n : ℕ) → take (length xs + n) (xs ++ ys) ≡ xs ++ take n ys
take_past [] ys n = ap (λ k. take k ys) (omega arith)
take_past (x ∷ xs) ys n =
    let one : length (x ∷ xs) + n ≡ suc (length xs + n) = omega arith in
    ap (λ k. take k (x ∷ xs ++ ys)) one ∙ ap (λ rest. x ∷ rest) (take_past xs ys n)

-- a prefix of a text is one of a longer text
pub part_more : (before now : Option (List ℕ)) (text more : List ℕ) → AppendsPart before now text → AppendsPart before now (text ++ more)
part_more before now text more part = record {
  taken = part.taken;
  not_all = omega (arith, part.not_all, length-append text more);
  written = subst (Appends before now) (sym (take_front part.taken text more (omega (arith, part.not_all)))) part.written;
}

-- what is after a text that was written whole is not written
pub part_whole : (before now : Option (List ℕ)) (text more : List ℕ) → 0 < length more → Appends before now text
    → AppendsPart before now (text ++ more)
part_whole before now text more some whole = record {
  taken = length text + 0;
  not_all = omega (arith, some, length-append text more);
  written = subst (Appends before now) (sym (take_past text more 0 ∙ append-nil text)) whole;
}

-- a prefix of what was gathered was written after all before it
pub part_behind : (before mid now : Option (List ℕ)) (out gathered text : List ℕ) → Appends before mid out → out ++ gathered ≡ text
    → AppendsPart mid now gathered → AppendsPart before now text
part_behind before mid now out gathered text first is part = record {
  taken = length out + part.taken;
  not_all = let long = ap length is in omega (arith, long, part.not_all, length-append out gathered);
  written = subst (λ (all : List ℕ). Appends before now (take (length out + part.taken) all)) is
      (subst (Appends before now) (sym (take_past out gathered part.taken))
      (Appends-trans before mid now out (take part.taken gathered) first part.written));
}

module _ (text : TranscriptLine → List ℕ) where
  -- nothing was put yet
  pub put_none : (faults : ℕ) (first : Option (List ℕ)) (gathered : List ℕ) (stopped : Option Unwritten) → gathered ≡ [] → stopped ≡ None
      → HasPutOut faults faults first first text [] gathered stopped
  put_none faults first gathered stopped none going =
      subst (HasPutOut faults faults first first text [] gathered) (sym going)
      (subst (λ (bytes : List ℕ). HasPutOut faults faults first first text [] bytes None) (sym none)
      (record { held = refl; out = []; wrote = Appends-nil first; is = refl }))

  -- a prefix of the lines' text is one of the text of more lines
  part_line : (before now : Option (List ℕ)) (lines : List TranscriptLine) (told : TranscriptLine)
      → AppendsPart before now (line_texts text lines) → AppendsPart before now (line_texts text (lines ++ told ∷ []))
  part_line before now lines told part =
      subst (AppendsPart before now) (sym (texts_push text lines told)) (part_more before now (line_texts text lines) (text told) part)

  -- if no more is written, nothing changes
  put_stopped : (faults now : ℕ) (first last : Option (List ℕ)) (lines : List TranscriptLine) (told : TranscriptLine) (gathered other : List ℕ)
      (why : Unwritten) → HasPutOut faults now first last text lines gathered (Some why)
      → HasPutOut faults now first last text (lines ++ told ∷ []) other (Some why)
  put_stopped faults now first last lines told gathered other WriteFault put = (put.0, part_line first last lines told put.1)
  put_stopped faults now first last lines told gathered other (NoMemory lack) put = record {
    held = put.held;
    many = put.many;
    fewer = omega (arith, put.fewer, length-append lines (told ∷ []));
    wrote = subst (λ (l : List TranscriptLine). Appends first last (line_texts text l))
        (sym (take_front put.many lines (told ∷ []) (omega (arith, put.fewer)))) put.wrote;
    part = part_line first last lines told put.part;
  }

  -- the text is gathered
  pub put_kept : (faults now : ℕ) (first last : Option (List ℕ)) (lines : List TranscriptLine) (told : TranscriptLine)
      (words gathered bytes : List ℕ) (stopped after : Option Unwritten)
      → stopped ≡ None → bytes ≡ gathered ++ words → words ≡ text told → after ≡ stopped
      → HasPutOut faults now first last text lines gathered stopped
      → HasPutOut faults now first last text (lines ++ told ∷ []) bytes after
  put_kept faults now first last lines told words gathered bytes (Some why) after going is words_are same put = absurd (cc)
  put_kept faults now first last lines told words gathered bytes None after going is words_are same put =
      subst (HasPutOut faults now first last text (lines ++ told ∷ []) bytes) (sym same)
      (subst (λ (b : List ℕ). HasPutOut faults now first last text (lines ++ told ∷ []) b None) (sym is)
      (record {
        held = put.held;
        out = put.out;
        wrote = put.wrote;
        is = sym (append_assoc put.out gathered words) ∙ ap (λ front. front ++ words) put.is
            ∙ ap (λ back. line_texts text lines ++ back) words_are ∙ sym (texts_push text lines told);
      }))

  -- what was gathered is written
  pub put_out : (faults now later : ℕ) (first mid last : Option (List ℕ)) (lines : List TranscriptLine) (gathered bytes : List ℕ)
      (stopped : Option Unwritten) → stopped ≡ None → later ≡ now → bytes ≡ [] → Appends mid last gathered
      → HasPutOut faults now first mid text lines gathered stopped → HasPutOut faults later first last text lines bytes stopped
  put_out faults now later first mid last lines gathered bytes (Some why) going held none wrote put = absurd (cc)
  put_out faults now later first mid last lines gathered bytes None going held none wrote put =
      subst (λ (b : List ℕ). HasPutOut faults later first last text lines b None) (sym none)
      (record {
        held = held ∙ put.held;
        out = put.out ++ gathered;
        wrote = Appends-trans first mid last put.out gathered put.wrote wrote;
        is = append-nil (put.out ++ gathered) ∙ put.is;
      })

  -- the output failed at it
  pub put_failed : (faults now later : ℕ) (first mid last : Option (List ℕ)) (lines : List TranscriptLine) (gathered bytes : List ℕ)
      (stopped after : Option Unwritten) → stopped ≡ None → after ≡ Some WriteFault → Rose now later → AppendsPart mid last gathered
      → HasPutOut faults now first mid text lines gathered stopped → HasPutOut faults later first last text lines bytes after
  put_failed faults now later first mid last lines gathered bytes (Some why) after going failed rose part put = absurd (cc)
  put_failed faults now later first mid last lines gathered bytes None after going failed rose part put =
      subst (HasPutOut faults later first last text lines bytes) (sym failed) (
        rose_since faults now later (omega (arith, put.held)) rose,
        part_behind first mid last put.out gathered (line_texts text lines) put.wrote put.is part,
      )

  module _ (faults now later : ℕ) (first mid last : Option (List ℕ)) (lines : List TranscriptLine) (told : TranscriptLine)
      (words gathered : List ℕ) (stopped : Option Unwritten) (going : stopped ≡ None) (none : gathered ≡ []) (words_are : words ≡ text told)
      (put : HasPutOut faults now first mid text lines gathered stopped) where
    owed : HasPutOut faults now first mid text (lines ++ told ∷ []) (gathered ++ words) stopped
    owed = put_kept faults now first mid lines told words gathered (gathered ++ words) stopped stopped going refl words_are refl put

    -- more is written, and nothing is gathered
    pub put_through : later ≡ now → Appends mid last words → HasPutOut faults later first last text (lines ++ told ∷ []) gathered stopped
    put_through held wrote =
        put_out faults now later first mid last (lines ++ told ∷ []) (gathered ++ words) gathered stopped going held none
        (subst (λ (front : List ℕ). Appends mid last (front ++ words)) (sym none) wrote) owed

    -- the output failed at it
    pub put_lost : (after : Option Unwritten) → after ≡ Some WriteFault → Rose now later → AppendsPart mid last words
        → HasPutOut faults later first last text (lines ++ told ∷ []) gathered after
    put_lost after failed rose part =
        put_failed faults now later first mid last (lines ++ told ∷ []) (gathered ++ words) gathered stopped after going failed rose
        (subst (λ (front : List ℕ). AppendsPart mid last (front ++ words)) (sym none) part) owed

  -- there is no memory for more
  pub put_short : (faults now : ℕ) (first last : Option (List ℕ)) (lines : List TranscriptLine) (told : TranscriptLine) (gathered : List ℕ)
      (stopped after : Option Unwritten) → stopped ≡ None → gathered ≡ [] → after ≡ Some (NoMemory a_refusal) → 0 < length (text told)
      → HasPutOut faults now first last text lines gathered stopped
      → HasPutOut faults now first last text (lines ++ told ∷ []) gathered after
  put_short faults now first last lines told gathered (Some why) after going none lacks some put = absurd (cc)
  put_short faults now first last lines told gathered None after going none lacks some put =
      subst (HasPutOut faults now first last text (lines ++ told ∷ []) gathered) (sym lacks)
      (record {
        held = put.held;
        many = length lines + 0;
        fewer = omega (arith, length-append lines (told ∷ []));
        wrote = subst (λ (l : List TranscriptLine). Appends first last (line_texts text l))
            (sym (take_past lines (told ∷ []) 0 ∙ append-nil lines)) whole;
        part = subst (AppendsPart first last) (sym (texts_push text lines told))
            (part_whole first last (line_texts text lines) (text told) some whole);
      })
    where
      whole : Appends first last (line_texts text lines)
      whole = subst (Appends first last) (sym (append-nil put.out) ∙ ap (λ back. put.out ++ back) (sym none) ∙ put.is) put.wrote

  -- no more is written, and nothing of it was
  pub put_held : (faults now : ℕ) (first last : Option (List ℕ)) (lines : List TranscriptLine) (told : TranscriptLine) (gathered : List ℕ)
      (stopped : Option Unwritten) (why : Unwritten) → stopped ≡ Some why
      → HasPutOut faults now first last text lines gathered stopped
      → HasPutOut faults now first last text (lines ++ told ∷ []) gathered stopped
  put_held faults now first last lines told gathered None why held put = absurd (cc)
  put_held faults now first last lines told gathered (Some other) why held put =
      put_stopped faults now first last lines told gathered gathered other put

  -- the same page
  pub put_same : (faults now : ℕ) (first last : Option (List ℕ)) (lines : List TranscriptLine) (gathered bytes : List ℕ)
      (stopped after : Option Unwritten) → bytes ≡ gathered → after ≡ stopped
      → HasPutOut faults now first last text lines gathered stopped → HasPutOut faults now first last text lines bytes after
  put_same faults now first last lines gathered bytes stopped after is same put =
      subst (HasPutOut faults now first last text lines bytes) (sym same)
      (subst (λ (b : List ℕ). HasPutOut faults now first last text lines b stopped) (sym is) put)

  -- how it ends
  pub put_ended : (faults now : ℕ) (first last : Option (List ℕ)) (lines : List TranscriptLine) (gathered : List ℕ) (stopped : Option Unwritten)
      → (stopped ≡ None → gathered ≡ []) → stopped ≡ None → HasPutOut faults now first last text lines gathered stopped
      → (now ≡ faults) × Appends first last (line_texts text lines)
  put_ended faults now first last lines gathered (Some why) empty going put = absurd (cc)
  put_ended faults now first last lines gathered None empty going put =
      (put.held, subst (Appends first last) (sym (append-nil put.out) ∙ ap (λ back. put.out ++ back) (sym (empty refl)) ∙ put.is) put.wrote)

  pub put_unwritten : (faults now : ℕ) (first last : Option (List ℕ)) (lines : List TranscriptLine) (gathered : List ℕ) (why : Unwritten)
      → HasPutOut faults now first last text lines gathered (Some why) → HasEnded faults now first last text lines (Err why)
  put_unwritten faults now first last lines gathered WriteFault put = put
  put_unwritten faults now first last lines gathered (NoMemory lack) put = put
