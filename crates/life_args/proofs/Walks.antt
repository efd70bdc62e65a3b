-- `clap`'s walk over the arguments that pieces spell, and the pieces of the arguments that it takes
use Rattle.life_args.proofs.Names.{◌≡◌, false, fold, List, [], ◌∷◌, ◌++◌, Option, Some, None, refl, sym, ap, ap₂, ◌∙◌, inl, inr, or_parts, settle_fault, walk_fault, Kinds, or_else, WordPiece, bare, flag, spelled, IsAmong, HasOnly, apart_piece, joined_piece, ArePlain, OptionNames, Spelling, alone_id, has_odd, is_odd}
use Rattle.clap.specs.Walk.{Row, Text, Waiting, Walk, arg_by_long, idle, positional, walked}
use Rattle.life_args.proofs.Lexing.{IsNamed, Seen, alone, apart, joined, seen, plain_word, apart_named, joined_named}
use Rattle.life_args.proofs.Rules.{AreGood, IsKnown, add, alone_known, filled_flag, flag_is, long_found, long_is, option_known}
use Rattle.life_args.proofs.Steps.{Goes, IsFaulty, IsFree, IsUse, Use, all_rows, c, s, stand, want, no_owing, alone_goes, name_goes, value_goes, joined_goes, flag_goes, unknown_faulty, valued_flag_faulty, wanting_faulty, wanting_flag_faulty, unfilled}

-- the id and the value of a piece
abbrev pub use_of : WordPiece → Use
use_of (bare value) = (alone_id, value)
use_of (apart_piece name value) = (name, value)
use_of (joined_piece name value) = (name, value)
use_of (flag name) = (name, [])

-- the rows after the uses of pieces
abbrev pub put : List WordPiece → List Row → List Row
put [] rows = rows
put (piece ∷ pieces) rows = put pieces (add (use_of piece).0 (use_of piece).1 rows)

pub none_second : (a b : Kinds) → or_else a b ≡ [] → b ≡ []
none_second [] b e = e
none_second (k ∷ ks) b e = cc

pub none_first : (a b : Kinds) → or_else a b ≡ [] → a ≡ []
none_first [] b e = refl
none_first (k ∷ ks) b e = e

module _ (names : OptionNames) (good : AreGood names) where
  abbrev pub ends : Walk → List Text → Walk
  ends w words = fold (walked (c names) []) w words

  -- the faults of words, and of what is pending after them
  abbrev pub total : Walk → List Text → Kinds
  total w words = or_else (walk_fault (s names) [] w words) (settle_fault (c names) false (ends w words).held)

  goes_on : (w after : Walk) (word : Text) (words : List Text) → Goes names w word after → total w (word ∷ words) ≡ total after words
  unfolding walk_fault
  goes_on w after word words goes =
      ap₂ (λ (k : Kinds) (v : Walk). or_else (or_else k (walk_fault (s names) [] v words)) (settle_fault (c names) false (ends v words).held)) goes.fault goes.walk

  stops : (w : Walk) (word : Text) (words : List Text) → IsFaulty names w word → total w (word ∷ words) ≡ [] → ⊥
  unfolding walk_fault
  stops w word words fault taken =
      let none : fault.0 ∷ fault.1 ≡ [] = sym fault.2 ∙ none_first _ _ (none_first _ _ taken) in
      cc

  known : (name : Text) → IsAmong names.valued name → IsKnown names name
  known name among = option_known names name (good.valued name among).other among

  -- ---- the words of pieces

  -- the arguments are read without fault, and these are the rows then
  pub record Reads (w : Walk) (words : List Text) (rows : List Row) : Type 0 where
    pub fault : total w words ≡ []
    pub before : List Row
    pub last : Option Use
    pub waiting : Waiting
    pub at_end : ends w words ≡ stand before last waiting
    pub is_use : IsUse names last
    pub all : all_rows before last ≡ rows

  on : (w after : Walk) (word : Text) (words : List Text) (rows : List Row) → Goes names w word after → Reads after words rows → Reads w (word ∷ words) rows
  on w after word words rows goes reads = record {
    fault = goes_on w after word words goes ∙ reads.fault;
    before = reads.before;
    last = reads.last;
    waiting = reads.waiting;
    at_end = ap (λ (v : Walk). ends v words) goes.walk ∙ reads.at_end;
    is_use = reads.is_use;
    all = reads.all;
  }

  pub reads : (pieces : List WordPiece) (rows : List Row) (last : Option Use) (waiting : Waiting) → IsFree waiting → IsUse names last → HasOnly names.valued names.flags pieces → ArePlain pieces
      → Reads (stand rows last waiting) (spelled pieces) (put pieces (all_rows rows last))
  unfolding walk_fault
  reads [] rows last waiting free use_is only plain =
      record { fault = no_owing names rows last use_is; before = rows; last = last; waiting = waiting; at_end = refl; is_use = use_is; all = refl }
  reads (bare value ∷ pieces) rows last waiting free use_is only plain =
      on (stand rows last waiting) _ value (spelled pieces) _ (alone_goes names rows last waiting value free use_is (plain_word value plain.0))
      (reads pieces (all_rows rows last) (Some (alone_id, value)) positional tt (alone_known names) only plain.1)
  reads (apart_piece name value ∷ pieces) rows last waiting free use_is only plain =
      on (stand rows last waiting) _ (45 ∷ 45 ∷ name) (value ∷ spelled pieces) _
      (name_goes names rows last waiting (45 ∷ 45 ∷ name) name use_is (apart_named name (good.valued name only.0).named) (long_is names name only.0))
      (on (want (all_rows rows last) name) _ value (spelled pieces) _ (value_goes names (all_rows rows last) name value (known name only.0) (plain_word value plain.0))
      (reads pieces (all_rows rows last) (Some (name, value)) idle tt (known name only.0) only.1 plain.1))
  reads (joined_piece name value ∷ pieces) rows last waiting free use_is only plain =
      on (stand rows last waiting) _ (45 ∷ 45 ∷ (name ++ 61 ∷ value)) (spelled pieces) _
      (joined_goes names rows last waiting (45 ∷ 45 ∷ (name ++ 61 ∷ value)) name value use_is (joined_named name value (good.valued name only.0).named) (long_is names name only.0))
      (reads pieces (add name value (all_rows rows last)) None idle tt tt only.1 plain)
  reads (flag name ∷ pieces) rows last waiting free use_is only plain =
      on (stand rows last waiting) _ (45 ∷ 45 ∷ name) (spelled pieces) _
      (flag_goes names rows last waiting (45 ∷ 45 ∷ name) name use_is (apart_named name (good.flags name only.0).named) (flag_is names name good only.0))
      (reads pieces (add name [] (all_rows rows last)) None idle tt tt only.1 plain)

  -- ---- the pieces of words

  abbrev Idle : List Text → Type 0
  Idle words = (rows : List Row) (last : Option Use) (waiting : Waiting) → IsFree waiting → IsUse names last → total (stand rows last waiting) words ≡ []
      → (pieces : List WordPiece) × Spelling names words pieces

  abbrev Wanting : List Text → Type 0
  Wanting words = (rows : List Row) (name : Text) → IsAmong names.valued name → total (want rows name) words ≡ []
      → (pieces : List WordPiece) × Spelling names ((45 ∷ 45 ∷ name) ∷ words) pieces

  idle_word : (word : Text) (words : List Text) → is_odd word ≡ false → Idle words → Wanting words → Idle (word ∷ words)
  idle_word word words even rest waits rows last waiting free use_is taken = go (seen word even)
    where
      go : Seen word → (pieces : List WordPiece) × Spelling names (word ∷ words) pieces
      go (alone plain) =
          let goes = alone_goes names rows last waiting word free use_is (plain_word word plain) in
          let more = rest (all_rows rows last) (Some (alone_id, word)) positional tt (alone_known names) (sym (goes_on (stand rows last waiting) _ word words goes) ∙ taken) in
          (bare word ∷ more.0, record { spells = ap (λ ws. word ∷ ws) more.1.spells; only = more.1.only; plain = (plain, more.1.plain) })
      go (apart name same is) = elim (long_found names name) [
        | inr (inr none) ↦ absurd (stops (stand rows last waiting) word words (unknown_faulty names rows (stand rows last waiting).held.pending waiting word name None is none) taken)
        | inr (inl its) ↦
            let goes = flag_goes names rows last waiting word name use_is is its.0 in
            let more = rest (add name [] (all_rows rows last)) None idle tt tt (sym (goes_on (stand rows last waiting) _ word words goes) ∙ taken) in
            (flag name ∷ more.0, record { spells = ap₂ (λ w ws. w ∷ ws) same more.1.spells; only = (its.1, more.1.only); plain = more.1.plain })
        | inl long ↦
            let goes = name_goes names rows last waiting word name use_is is long.0 in
            let more = waits (all_rows rows last) name long.1 (sym (goes_on (stand rows last waiting) _ word words goes) ∙ taken) in
            (more.0, record { spells = ap (λ w. w ∷ words) same ∙ more.1.spells; only = more.1.only; plain = more.1.plain })
      ]
      go (joined name value same is) = elim (long_found names name) [
        | inr (inr none) ↦ absurd (stops (stand rows last waiting) word words (unknown_faulty names rows (stand rows last waiting).held.pending waiting word name (Some value) is none) taken)
        | inr (inl its) ↦ absurd (stops (stand rows last waiting) word words (valued_flag_faulty names rows (stand rows last waiting).held.pending waiting word name value is its.0) taken)
        | inl long ↦
            let goes = joined_goes names rows last waiting word name value use_is is long.0 in
            let more = rest (add name value (all_rows rows last)) None idle tt tt (sym (goes_on (stand rows last waiting) _ word words goes) ∙ taken) in
            (joined_piece name value ∷ more.0, record { spells = ap₂ (λ w ws. w ∷ ws) same more.1.spells; only = (long.1, more.1.only); plain = more.1.plain })
      ]

  wanting_word : (word : Text) (words : List Text) → is_odd word ≡ false → Idle words → Wanting (word ∷ words)
  wanting_word word words even rest rows one among taken = go (seen word even)
    where
      flagged : (name : Text) (given : Option Text) → IsNamed word name given → arg_by_long (c names) name ≡ Some (filled_flag name) → IsFaulty names (want rows one) word
      flagged name None is found = wanting_flag_faulty names rows word one name (known one among) is found
      flagged name (Some value) is found = valued_flag_faulty names rows (Some (one, [])) (want rows one).waiting word name value is found

      wrong : (name : Text) (given : Option Text) → IsNamed word name given → IsFaulty names (want rows one) word
      wrong name given is = elim (long_found names name) [
        | inr (inr none) ↦ unknown_faulty names rows (Some (one, [])) (want rows one).waiting word name given is none
        | inr (inl its) ↦ flagged name given is its.0
        | inl long ↦ wanting_faulty names rows word one name given (known one among) is long.0
      ]

      go : Seen word → (pieces : List WordPiece) × Spelling names ((45 ∷ 45 ∷ one) ∷ word ∷ words) pieces
      go (alone plain) =
          let goes = value_goes names rows one word (known one among) (plain_word word plain) in
          let more = rest rows (Some (one, word)) idle tt (known one among) (sym (goes_on (want rows one) _ word words goes) ∙ taken) in
          (apart_piece one word ∷ more.0, record { spells = ap (λ ws. (45 ∷ 45 ∷ one) ∷ word ∷ ws) more.1.spells; only = (among, more.1.only); plain = (plain, more.1.plain) })
      go (apart name same is) = absurd (stops (want rows one) word words (wrong name None is) taken)
      go (joined name value same is) = absurd (stops (want rows one) word words (wrong name (Some value) is) taken)

  both : (words : List Text) → has_odd words ≡ false → Idle words × Wanting words
  unfolding walk_fault
  both [] even = (
    λ rows last waiting free use_is taken. ([], record { spells = refl; only = tt; plain = tt }),
    λ rows one among taken. let none : _ ≡ [] = sym (unfilled names rows one (known one among)) ∙ taken in absurd (cc),
  )
  both (word ∷ words) even =
      let each = or_parts (is_odd word) (has_odd words) even in
      let rest = both words each.1 in
      (idle_word word words each.0 rest.0 rest.1, wanting_word word words each.0 rest.0)

  pub pieces_of : (words : List Text) → has_odd words ≡ false → total (stand [] None idle) words ≡ [] → (pieces : List WordPiece) × Spelling names words pieces
  pieces_of words even taken = (both words even).0 [] None idle tt tt taken
