-- A transcript that stops short has one end, since no line's text is empty
use Rattle.life_app.proofs.Names.{◌≡◌, ◌⊎◌, ℕ, ℤ, zero, suc, ◌<◌, ◌≤◌, List, [], ◌∷◌, ◌++◌, length, take, refl, ap, sym, subst, inl, inr, arith, length-append, codes, decimal, flat_map, day_text, AllByRecursion, AllZip, Command, Entry, Reply, Floor, Pinned, PinRefused, Row, Terminal, accepted_of, IsToldLine, IsToldText, run_wording}
use Rattle.std.specs.List.{Contains, concat}
use Rattle.std.proofs.lemmas.List.{append_cancel_left}
use Rattle.lane_runner.specs.AnsweredLines.{AnsweredLine}
use Rattle.policy_types.specs.Valid.{id_of}
use Rattle.policy_types.specs.Words.{kind_word}
use Rattle.policy_types.specs.declared.policy.Policy.{Policy}
use Rattle.policy_types.specs.declared.script.Line.{Line}
use Rattle.policy_types.specs.declared.script.Line.TheVariants.{Post, Value, Trim}
use Rattle.report_text.specs.Block.{heading_text, row_text, total_text}
use Rattle.text_lines.specs.Lines.{behind_commas, line_of}
use Rattle.transcript_text.specs.Transcript.{reply_fields}

abbrev pub IsSome : List ℕ → Type 0
IsSome text = 0 < length text

line_some : (first : List ℕ) (fields : List (List ℕ)) → IsSome (line_of first fields)
line_some first fields = omega (arith, length-append (first ++ behind_commas fields) (10 ∷ []))

front_some : (front back : List ℕ) → IsSome front → IsSome (front ++ back)
front_some front back some = omega (arith, some, length-append front back)

block_some : (clerk : ℕ) (on : ℤ) (position : ℕ) (rows : List Row) → IsSome (run_wording.block clerk on position rows)
unfolding heading_text
block_some clerk on position rows =
    front_some (heading_text clerk on position (length rows) Terminal ++ flat_map row_text rows) (total_text Terminal rows)
    (front_some (heading_text clerk on position (length rows) Terminal) (flat_map row_text rows)
    (line_some (decimal clerk) (codes "value" ∷ day_text on ∷ decimal position ∷ decimal (length rows) ∷ [])))

text_some : (IsRow : ℤ → Policy → Row → Type 0) (clerk : ℕ) (line : Line) (reply : Reply) (commands : List Command) (IsDry : Type 0) (text : List ℕ)
    → IsToldText run_wording IsRow clerk line reply commands IsDry text → IsSome text
text_some IsRow clerk (Post command) reply commands IsDry text told =
    subst IsSome (sym told) (line_some (decimal clerk) (kind_word command ∷ decimal (id_of command) ∷ reply_fields reply))
text_some IsRow clerk Trim (Floor floor) commands IsDry text told =
    subst IsSome (sym told) (line_some (decimal clerk) (codes "trim" ∷ decimal floor ∷ []))
text_some IsRow clerk (Value on at workers) (PinRefused refusal) commands IsDry text told =
    subst IsSome (sym told) (line_some (decimal clerk) (codes "value" ∷ day_text on ∷ reply_fields (PinRefused refusal)))
text_some IsRow clerk (Value on at workers) (Pinned position policies) commands IsDry text (inl dry) =
    subst IsSome (sym dry.1) (line_some (decimal clerk) (codes "value" ∷ day_text on ∷ codes "nomemory" ∷ []))
text_some IsRow clerk (Value on at workers) (Pinned position policies) commands IsDry text (inr valued) =
    subst IsSome (sym valued.1.2) (block_some clerk on position valued.1.0)
text_some _ _ _ _ _ _ _ told = absurd told

pub texts_some : (IsRow : ℤ → Policy → Row → Type 0) (commands : List Command) (history : List Entry) (dry : List ℕ) (lines : List AnsweredLine) (texts : List (List ℕ))
    → AllZip (IsToldLine run_wording IsRow commands history dry) lines texts → AllByRecursion IsSome texts
texts_some IsRow commands history dry [] [] told = tt
texts_some IsRow commands history dry [] (text ∷ texts) told = absurd told
texts_some IsRow commands history dry (line ∷ lines) [] told = absurd told
texts_some IsRow commands history dry (line ∷ lines) (text ∷ texts) told = (
  text_some IsRow line.clerk line.line line.first.1.reply (commands ++ accepted_of (take line.first.0 history)) (Contains dry line.first.0) text told.0,
  texts_some IsRow commands history dry lines texts told.1,
)

none_written : (text rest : List ℕ) → IsSome text → [] ≡ text ++ rest → ⊥
none_written text rest some same = let none = ap length same in omega (arith, some, none, length-append text rest)

pub one_end : (texts : List (List ℕ)) (many other : ℕ) → AllByRecursion IsSome texts → many ≤ length texts → other ≤ length texts
    → concat (take many texts) ≡ concat (take other texts) → many ≡ other
one_end [] many other some upto too same = omega (arith, upto, too)
one_end (text ∷ texts) zero zero some upto too same = refl
one_end (text ∷ texts) zero (suc other) some upto too same = absurd (none_written text (concat (take other texts)) some.0 same)
one_end (text ∷ texts) (suc many) zero some upto too same = absurd (none_written text (concat (take many texts)) some.0 (sym same))
one_end (text ∷ texts) (suc many) (suc other) some upto too same =
    ap suc (one_end texts many other some.1 (omega (arith, upto)) (omega (arith, too))
    (append_cancel_left text (concat (take many texts)) (concat (take other texts)) same))
