-- What was handed on stays after the moments of the lines
use Rattle.lane_runner.proofs.Names.{◌≡◌, ◌⊎◌, ℕ, zero, suc, ◌+◌, ◌≤◌, ◌<◌, Bool, true, false, List, [], ◌∷◌, ◌++◌, length, take, Option, Some, None, Result, Ok, Err, slice_get, inl, inr, refl, ap, sym, ◌∙◌, subst, append-nil, append_assoc, length-append, arith, AllByRecursion, AddsPieces, TakenPiece, taken_bytes, TranscriptLine, accepted_lines, tells_accepted, line_texts, IsHandingOn, IsShowing}
use Rattle.std.specs.Option.{is_some}
use Rattle.std.proofs.lemmas.List.Sums.{sum_by-append}
use Rattle.std.proofs.Math.Bool.{cond}
use Rattle.lane_runner.specs.declared.wording.Unwritten.{Unwritten}
use Rattle.lane_runner.specs.Shown.{AreShown, HasShown, IsHandedOn}
use Rattle.lane_runner.proofs.GatherSteps.{take_front, take_past}
use Rattle.lane_runner.proofs.TakeSteps.{texts_push}

-- lists
in_front : {A : Type 0} (xs ys : List A) (i : ℕ) (x : A) → slice_get xs i ≡ Some x → slice_get (xs ++ ys) i ≡ Some x
in_front [] ys i x is = absurd (cc)
in_front (y ∷ xs) ys zero x is = is
in_front (y ∷ xs) ys (suc i) x is = in_front xs ys i x is

-- each element that satisfies a condition
got_all : {A : Type 0} (P : A → Type 0) (xs : List A) (i : ℕ) → i < length xs → AllByRecursion P xs → (x : A) × (slice_get xs i ≡ Some x) × P x
got_all P [] i below all = absurd (omega arith)
got_all P (x ∷ xs) zero below all = (x, refl, all.0)
got_all P (x ∷ xs) (suc i) below all = got_all P xs i (omega (arith, below)) all.1

all_push : {A : Type 0} (P : A → Type 0) (xs : List A) (x : A) → AllByRecursion P xs → P x → AllByRecursion P (xs ++ x ∷ [])
all_push P [] x all one = (one, tt)
all_push P (y ∷ xs) x all one = (all.0, all_push P xs x all.1 one)

all_up : (xs : List ℕ) (m n : ℕ) → m ≤ n → AllByRecursion (λ x. x ≤ m) xs → AllByRecursion (λ x. x ≤ n) xs
all_up [] m n up all = tt
all_up (x ∷ xs) m n up all = (omega (arith, up, all.0), all_up xs m n up all.1)

-- how a list with one more element is divided at an element
pub record PartsInside {A : Type 0} (xs before after : List A) (x one : A) : Type 0 where
  pub rest : List A
  pub after_is : after ≡ rest ++ x ∷ []
  pub is : xs ≡ before ++ one ∷ rest

pub record PartsLast {A : Type 0} (xs before : List A) (x one : A) : Type 0 where
  pub before_is : before ≡ xs
  pub one_is : one ≡ x

parts_push : {A : Type 0} (xs before after : List A) (x one : A) → xs ++ x ∷ [] ≡ before ++ one ∷ after
    → PartsInside xs before after x one ⊎ PartsLast xs before x one
parts_push [] [] after x one is = inr (record { before_is = refl; one_is = cc })
parts_push [] (b ∷ []) after x one is = absurd (cc)
parts_push [] (b ∷ c ∷ before) after x one is = absurd (cc)
parts_push (y ∷ xs) [] after x one is =
    let same : y ≡ one = cc in
    let rest : xs ++ x ∷ [] ≡ after = cc in
    inl (record { rest = xs; after_is = sym rest; is = ap (λ z. z ∷ xs) same })
parts_push {A} (y ∷ xs) (b ∷ before) after x one is =
    let same : y ≡ b = cc in
    let rest : xs ++ x ∷ [] ≡ before ++ one ∷ after = cc in
    by same (parts_push xs before after x one rest)
  where
    by : y ≡ b → PartsInside xs before after x one ⊎ PartsLast xs before x one
        → PartsInside (y ∷ xs) (b ∷ before) after x one ⊎ PartsLast (y ∷ xs) (b ∷ before) x one
    by same (inl inside) = inl (record { rest = inside.rest; after_is = inside.after_is; is = λ i. same i ∷ inside.is i })
    by same (inr last) = inr (record { before_is = λ i. sym same i ∷ last.before_is i; one_is = last.one_is })

-- how two lists put together are divided at an element
pub record PartsBehind {A : Type 0} (ys earlier : List A) (one : A) : Type 0 where
  pub later : List A
  pub is : ys ≡ later ++ one ∷ earlier

parts_front : {A : Type 0} (P : A → Type 0) (xs ys later earlier : List A) (one : A) → AllByRecursion P xs
    → xs ++ ys ≡ later ++ one ∷ earlier → P one ⊎ PartsBehind ys earlier one
parts_front P [] ys later earlier one all is = inr (record { later = later; is = is })
parts_front P (x ∷ xs) ys [] earlier one all is = let same : x ≡ one = cc in inl (subst P same all.0)
parts_front P (x ∷ xs) ys (l ∷ later) earlier one all is =
    let rest : xs ++ ys ≡ later ++ one ∷ earlier = cc in parts_front P xs ys later earlier one all.1 rest

pub taken_more : (xs ys : List TakenPiece) → taken_bytes (xs ++ ys) ≡ taken_bytes ys ++ taken_bytes xs
taken_more [] ys = sym (append-nil (taken_bytes ys))
taken_more (x ∷ xs) ys = ap (λ front. front ++ x.bytes) (taken_more xs ys) ∙ append_assoc (taken_bytes ys) (taken_bytes xs) x.bytes

-- what was taken by some piece is no longer than all
taken_within : (run later earlier : List TakenPiece) (piece : TakenPiece) → run ≡ later ++ piece ∷ earlier
    → length (taken_bytes (piece ∷ earlier)) ≤ length (taken_bytes run)
taken_within run later earlier piece is =
    let long = ap (λ (r : List TakenPiece). length (taken_bytes r)) is ∙ ap length (taken_more later (piece ∷ earlier)) in
    omega (arith, long, length-append (taken_bytes (piece ∷ earlier)) (taken_bytes later))

pub counted_more : (xs ys : List TranscriptLine) → accepted_lines (xs ++ ys) ≡ accepted_lines xs + accepted_lines ys
counted_more xs ys = sum_by-append (λ (l : TranscriptLine). cond (tells_accepted l.outcome) 1 0) xs ys

pub accepted_one : (told : TranscriptLine) → tells_accepted told.outcome ≡ true → accepted_lines (told ∷ []) ≡ 1
accepted_one told accepted = ap (λ (b : Bool). 0 + cond {A = ℕ} b 1 0) accepted

pub accepted_none : (told : TranscriptLine) → tells_accepted told.outcome ≡ false → accepted_lines (told ∷ []) ≡ 0
accepted_none told other = ap (λ (b : Bool). 0 + cond {A = ℕ} b 1 0) other

-- an accepted line is counted among all
counted_before : (lines before after : List TranscriptLine) (told : TranscriptLine) → lines ≡ before ++ told ∷ after
    → tells_accepted told.outcome ≡ true → accepted_lines before < accepted_lines lines
counted_before lines before after told is accepted =
    let one : accepted_lines (told ∷ []) ≡ 0 + cond {A = ℕ} true 1 0 = ap (λ (b : Bool). 0 + cond {A = ℕ} b 1 0) accepted in
    let behind : accepted_lines (told ∷ after) ≡ accepted_lines (told ∷ []) + accepted_lines after = counted_more (told ∷ []) after in
    let all : accepted_lines lines ≡ accepted_lines before + accepted_lines (told ∷ after) = ap accepted_lines is ∙ counted_more before (told ∷ after) in
    omega (arith, all, behind, one)

module _ (text : TranscriptLine → List ℕ) where
  shown_none : (lines : List TranscriptLine) (moments : List ℕ) → AreShown text [] lines moments
  shown_none lines moments = λ later earlier piece is before after told at accepted past. absurd (by earlier piece later is)
    where
      by : (earlier : List TakenPiece) (piece : TakenPiece) (later : List TakenPiece) → [] ≡ later ++ piece ∷ earlier → ⊥
      by earlier piece [] is = cc
      by earlier piece (x ∷ later) is = cc

  -- one more moment
  shown_moment : (run : List TakenPiece) (lines : List TranscriptLine) (moments : List ℕ) (moment : ℕ) → AreShown text run lines moments
      → AreShown text run lines (moments ++ moment ∷ [])
  shown_moment run lines moments moment shown = λ later earlier piece is before after told at accepted past.
      let found = shown later earlier piece is before after told at accepted past in
      (found.0, in_front moments (moment ∷ []) (accepted_lines before) found.0 found.1, found.2)

  -- one more line, of whose text nothing was handed on
  shown_line : (run : List TakenPiece) (lines : List TranscriptLine) (moments : List ℕ) (told : TranscriptLine)
      → length (taken_bytes run) ≤ length (line_texts text lines) → AreShown text run lines moments
      → AreShown text run (lines ++ told ∷ []) moments
  shown_line run lines moments told short shown = λ later earlier piece is before after one at accepted past.
      by later earlier piece is before after one accepted past (parts_push lines before after told one at)
    where
      by : (later earlier : List TakenPiece) (piece : TakenPiece) → run ≡ later ++ piece ∷ earlier
          → (before after : List TranscriptLine) (one : TranscriptLine) → tells_accepted one.outcome ≡ true
          → length (line_texts text before) < length (taken_bytes (piece ∷ earlier))
          → PartsInside lines before after told one ⊎ PartsLast lines before told one
          → (moment : ℕ) × (slice_get moments (accepted_lines before) ≡ Some moment) × (moment ≤ piece.since)
      by later earlier piece is before after one accepted past (inl inside) =
          shown later earlier piece is before inside.rest one inside.is accepted past
      by later earlier piece is before after one accepted past (inr last) =
          absurd (let same = ap (λ (l : List TranscriptLine). length (line_texts text l)) last.before_is in
          omega (arith, past, same, short, taken_within run later earlier piece is))

  -- more pieces, by a moment that is none of the lines' before
  shown_pieces : (more run : List TakenPiece) (lines : List TranscriptLine) (moments : List ℕ) (latest : ℕ)
      → AllByRecursion (λ (piece : TakenPiece). piece.since ≡ latest) more → AllByRecursion (λ moment. moment ≤ latest) moments
      → accepted_lines lines ≤ length moments → AreShown text run lines moments → AreShown text (more ++ run) lines moments
  shown_pieces more run lines moments latest all upto enough shown = λ later earlier piece is before after told at accepted past.
      by earlier piece before after told at accepted past (parts_front (λ (p : TakenPiece). p.since ≡ latest) more run later earlier piece all is)
    where
      by : (earlier : List TakenPiece) (piece : TakenPiece) (before after : List TranscriptLine) (told : TranscriptLine)
          → lines ≡ before ++ told ∷ after → tells_accepted told.outcome ≡ true
          → length (line_texts text before) < length (taken_bytes (piece ∷ earlier))
          → (piece.since ≡ latest) ⊎ PartsBehind run earlier piece
          → (moment : ℕ) × (slice_get moments (accepted_lines before) ≡ Some moment) × (moment ≤ piece.since)
      by earlier piece before after told at accepted past (inl since) =
          let found = got_all (λ moment. moment ≤ latest) moments (accepted_lines before)
          (omega (arith, enough, counted_before lines before after told at accepted)) upto in
          (found.0, found.1, omega (arith, found.2, since))
      by earlier piece before after told at accepted past (inr behind) =
          shown behind.later earlier piece behind.is before after told at accepted past

-- a prefix of a text
abbrev pub IsFront : List ℕ → List ℕ → Type 0
IsFront text front = (n : ℕ) × (n < length text) × (front ≡ take n text)

take_short : (n : ℕ) (xs : List ℕ) → length (take n xs) ≤ n
take_short zero xs = omega arith
take_short (suc n) [] = omega arith
take_short (suc n) (x ∷ xs) = omega (arith, take_short n xs)

front_more : (text more front : List ℕ) → IsFront text front → IsFront (text ++ more) front
front_more text more front is = (
  is.0,
  omega (arith, is.1, length-append text more),
  is.2 ∙ sym (take_front is.0 text more (omega (arith, is.1))),
)

front_behind : (handed gathered text more : List ℕ) → handed ++ gathered ≡ text → IsFront gathered more → IsFront text (handed ++ more)
front_behind handed gathered text more whole is = (
  length handed + is.0,
  (let long = ap length whole in omega (arith, is.1, long, length-append handed gathered)),
  ap (λ back. handed ++ back) is.2 ∙ sym (take_past handed gathered is.0) ∙ ap (take (length handed + is.0)) whole,
)

-- what was handed on is no longer than the text
handed_short : (text handed gathered : List ℕ) (stopped : Option Unwritten) → IsHandingOn text handed gathered stopped
    → length handed ≤ length text
handed_short text handed gathered None is = let long = ap length is in omega (arith, long, length-append handed gathered)
handed_short text handed gathered (Some why) is =
    let long = ap length is.2 in omega (arith, long, take_short is.0 text, is.1)

-- more of the text is to be handed on
handed_more : (text more handed gathered : List ℕ) (stopped : Option Unwritten) → IsHandingOn text handed gathered stopped
    → IsHandingOn (text ++ more) handed (gathered ++ more) stopped
handed_more text more handed gathered None is = sym (append_assoc handed gathered more) ∙ ap (λ front. front ++ more) is
handed_more text more handed gathered (Some why) is = front_more text more handed is

module _ (text : TranscriptLine → List ℕ) (first : List TakenPiece) where
  -- nothing was handed on yet
  pub showing_none : (latest : ℕ) (lines : List TranscriptLine) (moments gathered : List ℕ) (stopped : Option Unwritten)
      → lines ≡ [] → moments ≡ [] → gathered ≡ [] → stopped ≡ None
      → IsShowing text first first lines moments latest gathered stopped
  showing_none latest lines moments gathered stopped no_lines no_moments none going =
      subst (IsShowing text first first lines moments latest gathered) (sym going)
      (subst (λ (g : List ℕ). IsShowing text first first lines moments latest g None) (sym none)
      (subst (λ (m : List ℕ). IsShowing text first first lines m latest [] None) (sym no_moments)
      (subst (λ (l : List TranscriptLine). IsShowing text first first l [] latest [] None) (sym no_lines) (record {
        run = [];
        added = refl;
        handed = refl;
        shown = shown_none text [] [];
        latest_is = tt;
        enough = omega arith;
      }))))

  -- the next moment is known
  pub showing_moment : (now : List TakenPiece) (lines : List TranscriptLine) (moments news : List ℕ) (latest moment later : ℕ) (gathered : List ℕ)
      (stopped : Option Unwritten) → news ≡ moments ++ moment ∷ [] → latest ≤ later → moment ≤ later
      → IsShowing text first now lines moments latest gathered stopped → IsShowing text first now lines news later gathered stopped
  showing_moment now lines moments news latest moment later gathered stopped one_more up upto is =
      subst (λ (m : List ℕ). IsShowing text first now lines m later gathered stopped) (sym one_more) (record {
        run = is.run;
        added = is.added;
        handed = is.handed;
        shown = shown_moment text is.run lines moments moment is.shown;
        latest_is = all_push (λ m. m ≤ later) moments moment (all_up moments latest later up is.latest_is) upto;
        enough = omega (arith, is.enough, length-append moments (moment ∷ []));
      })

  -- one more line is to be handed on
  pub showing_line : (now : List TakenPiece) (lines : List TranscriptLine) (moments : List ℕ) (latest : ℕ) (gathered : List ℕ)
      (stopped : Option Unwritten) (told : TranscriptLine) → accepted_lines (lines ++ told ∷ []) ≤ length moments
      → IsShowing text first now lines moments latest gathered stopped
      → IsShowing text first now (lines ++ told ∷ []) moments latest (gathered ++ text told) stopped
  showing_line now lines moments latest gathered stopped told enough is = record {
    run = is.run;
    added = is.added;
    handed = subst (λ (t : List ℕ). IsHandingOn t (taken_bytes is.run) (gathered ++ text told) stopped) (sym (texts_push text lines told))
        (handed_more (line_texts text lines) (text told) (taken_bytes is.run) gathered stopped is.handed);
    shown = shown_line text is.run lines moments told (handed_short (line_texts text lines) (taken_bytes is.run) gathered stopped is.handed) is.shown;
    latest_is = is.latest_is;
    enough = enough;
  }

  -- if no more is handed on, nothing changes
  pub showing_held : (now : List TakenPiece) (lines : List TranscriptLine) (moments : List ℕ) (latest : ℕ) (gathered other : List ℕ)
      (stopped : Option Unwritten) → is_some stopped ≡ true
      → IsShowing text first now lines moments latest gathered stopped → IsShowing text first now lines moments latest other stopped
  showing_held now lines moments latest gathered other None held is = absurd (cc)
  showing_held now lines moments latest gathered other (Some same) held is = record {
    run = is.run;
    added = is.added;
    handed = is.handed;
    shown = is.shown;
    latest_is = is.latest_is;
    enough = is.enough;
  }

  -- the same page
  pub showing_same : (now : List TakenPiece) (lines : List TranscriptLine) (moments : List ℕ) (latest : ℕ) (gathered bytes : List ℕ)
      (stopped after : Option Unwritten) → bytes ≡ gathered → after ≡ stopped
      → IsShowing text first now lines moments latest gathered stopped → IsShowing text first now lines moments latest bytes after
  showing_same now lines moments latest gathered bytes stopped after is_bytes same is =
      subst (IsShowing text first now lines moments latest bytes) (sym same)
      (subst (λ (b : List ℕ). IsShowing text first now lines moments latest b stopped) (sym is_bytes) is)

  added_more : (now mid run more : List TakenPiece) → now ≡ more ++ mid → mid ≡ run ++ first → now ≡ (more ++ run) ++ first
  added_more now mid run more added is = added ∙ ap (λ (back : List TakenPiece). more ++ back) is ∙ sym (append_assoc more run first)

  module _ {T E : Type 0} (mid now : List TakenPiece) (lines : List TranscriptLine) (moments : List ℕ) (latest : ℕ) (gathered : List ℕ)
      (stopped : Option Unwritten) (going : stopped ≡ None) where
    -- all that is gathered was handed on
    pub showing_out : (words bytes : List ℕ) (after : Option Unwritten) (done : T) → AddsPieces {E = E} mid now latest words (Ok done)
        → words ≡ gathered → bytes ≡ [] → after ≡ stopped → IsShowing text first mid lines moments latest gathered stopped
        → IsShowing text first now lines moments latest bytes after
    showing_out words bytes after done adds words_are none same is =
        showing_same now lines moments latest [] bytes None after none (same ∙ going) (record {
          run = adds.run ++ still.run;
          added = added_more now mid still.run adds.run adds.added still.added;
          handed =
              append-nil (taken_bytes (adds.run ++ still.run)) ∙ taken_more adds.run still.run
              ∙ ap (λ back. taken_bytes still.run ++ back) (adds.whole ∙ words_are) ∙ still.handed;
          shown = shown_pieces text adds.run still.run lines moments latest adds.all still.latest_is still.enough still.shown;
          latest_is = still.latest_is;
          enough = still.enough;
        })
      where
        still : IsShowing text first mid lines moments latest gathered None
        still = subst (IsShowing text first mid lines moments latest gathered) going is

    -- the output failed at it
    pub showing_failed : (words bytes : List ℕ) (after : Option Unwritten) (why : Unwritten) (fault : E)
        → AddsPieces {T = T} mid now latest words (Err fault) → words ≡ gathered → after ≡ Some why → IsShowing text first mid lines moments latest gathered stopped
        → IsShowing text first now lines moments latest bytes after
    showing_failed words bytes after why fault adds words_are failed is =
        showing_same now lines moments latest bytes bytes (Some why) after refl failed (record {
          run = adds.run ++ still.run;
          added = added_more now mid still.run adds.run adds.added still.added;
          handed = subst (IsFront (line_texts text lines)) (sym (taken_more adds.run still.run))
              (front_behind (taken_bytes still.run) gathered (line_texts text lines) (taken_bytes adds.run) still.handed
              (subst (λ (w : List ℕ). IsFront w (taken_bytes adds.run)) words_are adds.part));
          shown = shown_pieces text adds.run still.run lines moments latest adds.all still.latest_is still.enough still.shown;
          latest_is = still.latest_is;
          enough = still.enough;
        })
      where
        still : IsShowing text first mid lines moments latest gathered None
        still = subst (IsShowing text first mid lines moments latest gathered) going is

  -- there is no memory for what is still to be handed on
  pub showing_short : (now : List TakenPiece) (lines : List TranscriptLine) (moments : List ℕ) (latest : ℕ) (owed gathered : List ℕ)
      (stopped after : Option Unwritten) (why : Unwritten) → stopped ≡ None → after ≡ Some why → 0 < length owed
      → IsShowing text first now lines moments latest owed stopped → IsShowing text first now lines moments latest gathered after
  showing_short now lines moments latest owed gathered (Some other) after why going lacks some is = absurd (cc)
  showing_short now lines moments latest owed gathered None after why going lacks some is =
      showing_same now lines moments latest gathered gathered (Some why) after refl lacks (record {
        run = is.run;
        added = is.added;
        handed = subst (λ (t : List ℕ). IsFront t (taken_bytes is.run)) is.handed (
          length (taken_bytes is.run) + 0,
          omega (arith, some, length-append (taken_bytes is.run) owed),
          sym (take_past (taken_bytes is.run) owed 0 ∙ append-nil (taken_bytes is.run)),
        );
        shown = is.shown;
        latest_is = is.latest_is;
        enough = is.enough;
      })

  -- one more line is gathered
  pub showing_kept : (now : List TakenPiece) (lines : List TranscriptLine) (moments : List ℕ) (latest : ℕ) (words gathered bytes : List ℕ)
      (stopped after : Option Unwritten) (told : TranscriptLine) → bytes ≡ gathered ++ words → words ≡ text told → after ≡ stopped
      → accepted_lines (lines ++ told ∷ []) ≤ length moments → IsShowing text first now lines moments latest gathered stopped
      → IsShowing text first now (lines ++ told ∷ []) moments latest bytes after
  showing_kept now lines moments latest words gathered bytes stopped after told kept words_are same enough is =
      showing_same now (lines ++ told ∷ []) moments latest (gathered ++ text told) bytes stopped after
      (kept ∙ ap (λ back. gathered ++ back) words_are) same (showing_line now lines moments latest gathered stopped told enough is)

  -- one more line, of which no more is handed on
  pub showing_past : (now : List TakenPiece) (lines : List TranscriptLine) (moments : List ℕ) (latest : ℕ) (gathered bytes : List ℕ)
      (stopped : Option Unwritten) (told : TranscriptLine) → is_some stopped ≡ true
      → accepted_lines (lines ++ told ∷ []) ≤ length moments → IsShowing text first now lines moments latest gathered stopped
      → IsShowing text first now (lines ++ told ∷ []) moments latest bytes stopped
  showing_past now lines moments latest gathered bytes stopped told held enough is =
      showing_held now (lines ++ told ∷ []) moments latest (gathered ++ text told) bytes stopped held
      (showing_line now lines moments latest gathered stopped told enough is)

  -- one more line, for which there is no memory
  pub showing_lacking : (now : List TakenPiece) (lines : List TranscriptLine) (moments : List ℕ) (latest : ℕ) (gathered bytes : List ℕ)
      (stopped after : Option Unwritten) (why : Unwritten) (told : TranscriptLine) → stopped ≡ None → after ≡ Some why → 0 < length (text told)
      → accepted_lines (lines ++ told ∷ []) ≤ length moments → IsShowing text first now lines moments latest gathered stopped
      → IsShowing text first now (lines ++ told ∷ []) moments latest bytes after
  showing_lacking now lines moments latest gathered bytes stopped after why told going lacks some enough is =
      showing_short now (lines ++ told ∷ []) moments latest (gathered ++ text told) bytes stopped after why going lacks
      (omega (arith, some, length-append gathered (text told))) (showing_line now lines moments latest gathered stopped told enough is)

  module _ (mid now : List TakenPiece) (lines : List TranscriptLine) (moments : List ℕ) (latest : ℕ) (words gathered : List ℕ)
      (stopped : Option Unwritten) (told : TranscriptLine) (going : stopped ≡ None) (none : gathered ≡ []) (words_are : words ≡ text told)
      (enough : accepted_lines (lines ++ told ∷ []) ≤ length moments) (is : IsShowing text first mid lines moments latest gathered stopped) where
    owed : IsShowing text first mid (lines ++ told ∷ []) moments latest words stopped
    owed = showing_same mid (lines ++ told ∷ []) moments latest (gathered ++ text told) words stopped stopped
        (words_are ∙ ap (λ front. front ++ text told) (sym none)) refl (showing_line mid lines moments latest gathered stopped told enough is)

    -- one more line was handed on, where nothing was gathered
    pub showing_through : {T E : Type 0} (done : T) → AddsPieces {E = E} mid now latest words (Ok done)
        → IsShowing text first now (lines ++ told ∷ []) moments latest gathered stopped
    showing_through {T} {E} done adds =
        showing_out {T = T} {E = E} mid now (lines ++ told ∷ []) moments latest words stopped going words gathered stopped done adds refl none refl owed

    -- the output failed at it
    pub showing_lost : {T E : Type 0} (after : Option Unwritten) (why : Unwritten) (fault : E) → AddsPieces {T = T} mid now latest words (Err fault)
        → after ≡ Some why → IsShowing text first now (lines ++ told ∷ []) moments latest gathered after
    showing_lost {T} {E} after why fault adds failed =
        showing_failed {T = T} {E = E} mid now (lines ++ told ∷ []) moments latest words stopped going words gathered after why fault adds refl failed owed

  -- how it ends
  pub showing_ended : (now : List TakenPiece) (lines : List TranscriptLine) (moments : List ℕ) (latest : ℕ) (gathered : List ℕ)
      (stopped : Option Unwritten) → length moments ≡ accepted_lines lines
      → IsShowing text first now lines moments latest gathered stopped
      → (stopped ≡ None → gathered ≡ []) → (written : Result (Unit {0}) Unwritten)
      → ((why : Unwritten) → stopped ≡ Some why → written ≡ Err why) → (stopped ≡ None → written ≡ Ok tt)
      → HasShown text first now lines moments latest written
  showing_ended now lines moments latest gathered stopped counted is empty written failed whole = record {
    run = is.run;
    added = is.added;
    handed = by stopped is.handed empty failed whole;
    shown = is.shown;
    latest_is = is.latest_is;
    counted = counted;
  }
    where
      by : (stopped : Option Unwritten) → IsHandingOn (line_texts text lines) (taken_bytes is.run) gathered stopped
          → (stopped ≡ None → gathered ≡ []) → ((why : Unwritten) → stopped ≡ Some why → written ≡ Err why) → (stopped ≡ None → written ≡ Ok tt)
          → IsHandedOn (line_texts text lines) (taken_bytes is.run) written
      by None handed empty failed whole =
          subst (IsHandedOn (line_texts text lines) (taken_bytes is.run)) (sym (whole refl))
          (sym (append-nil (taken_bytes is.run)) ∙ ap (λ back. taken_bytes is.run ++ back) (sym (empty refl)) ∙ handed)
      by (Some why) handed empty failed whole =
          subst (IsHandedOn (line_texts text lines) (taken_bytes is.run)) (sym (failed why refl)) handed
