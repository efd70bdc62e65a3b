-- One argument in `clap`'s walk over a line
use Rattle.life_args.proofs.Names.{◌≡◌, ℕ, Bool, true, false, cond, List, [], ◌∷◌, Option, Some, None, option_map, refl, ap, ap₂, ◌∙◌, bytes_eq, codes, nat_lt, ⊤, long_of, Shape, new_shape, settle_fault, turn_fault, use_fault, word_fault, other_fault, step_fault, flag_word_fault, bundle_fault, long_fault, Kinds, or_else, InvalidValue, TooManyValues, UnknownArgument, OptionNames, alone_id}
use Rattle.std.proofs.Math.Bool.{and-false}
use Rattle.std.specs.Option.{option_map_or}
use Rattle.clap.specs.Walk.{Held, Row, Rule, Step, Text, Waiting, Walk, idle, option, positional, next, settled, settled_rows, value, used, walked, arg_by_id, arg_by_long, is_pending, word_met, plain_word, option_word, pushed, after_step, after_flag, long_met, long_or_other, long_word, short_or_plain, subcommand_met, subcommand_or_other, to_positional, trailing}
use Rattle.clap.specs.declared.error.kind.ErrorKind.{ErrorKind}
use Rattle.life_args.proofs.Lexing.{IsValueWord, IsNamed}
use Rattle.life_args.proofs.Rules.{IsKnown, add, filled_alone, filled_flag, filled_option, own, rules}

-- a built command without subcommands
abbrev pub leaf : List Rule → Shape
leaf all = record (new_shape (codes "life")) {
  rules = all;
  no_binary_name = true;
  disable_help_flag = true;
  disable_help_subcommand = true;
  is_built = true;
}

-- a use whose rows are still to be written: an id and its value
abbrev pub Use : Type 0
Use = Text × Text

abbrev pub at : List Row → Option (Text × List Text) → Held
at rows pending = record { rows = rows; pending = pending; skip = 0 }

abbrev pub at_walk : List Row → Option (Text × List Text) → Waiting → Walk
at_walk rows pending waiting = record { held = at rows pending; waiting = waiting; position = 1; is_trailing = false; stopped = None }

abbrev pub held : List Row → Option Use → Held
held rows last = at rows (option_map (λ (u : Use). (u.0, u.1 ∷ [])) last)

-- the state of the walk: nothing waits for a value, or an option does
abbrev pub stand : List Row → Option Use → Waiting → Walk
stand rows last waiting = at_walk rows (held rows last).pending waiting

abbrev pub want : List Row → Text → Walk
want rows name = at_walk rows (Some (name, [])) (option name)

-- the rows, with the last use
abbrev pub all_rows : List Row → Option Use → List Row
all_rows rows None = rows
all_rows rows (Some u) = add u.0 u.1 rows

-- no option waits for a value
abbrev pub IsFree : Waiting → Type 0
IsFree (option name) = ⊥
IsFree _ = ⊤

no_subcommand : (waiting : Waiting) (word : Text) → subcommand_met [] waiting word ≡ None
no_subcommand idle word = refl
no_subcommand (option id) word = refl
no_subcommand positional word = refl

module _ (names : OptionNames) where
  abbrev pub c : List Rule
  c = rules names

  abbrev pub s : Shape
  s = leaf (rules names)

  -- an argument without fault, and the state of the walk after it
  pub record Goes (w : Walk) (word : Text) (after : Walk) : Type 0 where
    pub fault : turn_fault s [] w word ≡ []
    pub walk : walked c [] w word ≡ after

  abbrev pub IsUse : Option Use → Type 0
  IsUse None = ⊤
  IsUse (Some u) = IsKnown names u.0

  -- ---- the last use

  pub no_owing : (rows : List Row) (last : Option Use) → IsUse last → settle_fault c false (held rows last) ≡ []
  no_owing rows None known = refl
  no_owing rows (Some u) known = ap (λ o. option_map_or (λ a. use_fault false a (u.1 ∷ []) rows) o []) known.found ∙ known.fits u.1 rows

  pub settles : (rows : List Row) (last : Option Use) → IsUse last → settled c (held rows last) ≡ held (all_rows rows last) None
  settles rows None known = refl
  settles rows (Some u) known =
      ap (λ o. record { rows = Rattle.clap.specs.Walk.used_by_id o (u.1 ∷ []) rows; pending = None; skip = 0 }) known.found
      ∙ ap (λ (r : List Row). held r None) (known.adds u.1 rows)

  -- ---- how a word is met

  met_is : (waiting : Waiting) (word : Text) (h : Held) → bytes_eq word (45 ∷ 45 ∷ []) ≡ false → word_met c [] false waiting 1 word h ≡ long_or_other c waiting word (long_of word) h
  met_is waiting word h other =
      ap (λ o. subcommand_or_other c o waiting 1 word h) (no_subcommand waiting word)
      ∙ ap (λ (b : Bool). cond b (h, trailing 1) (long_or_other c waiting word (long_of word) h)) other

  fault_is : (waiting : Waiting) (word : Text) (h : Held) → bytes_eq word (45 ∷ 45 ∷ []) ≡ false → word_fault s [] false waiting word h ≡ flag_word_fault c false (long_of word) word h
  fault_is waiting word h other =
      ap (λ o. other_fault s o word h) (no_subcommand waiting word)
      ∙ ap (λ (b : Bool). cond b [] (flag_word_fault c false (long_of word) word h)) other

  value_met : (waiting : Waiting) (word : Text) (h : Held) → IsValueWord word → word_met c [] false waiting 1 word h ≡ plain_word c waiting word h
  value_met waiting word h is =
      met_is waiting word h is.no_hyphens ∙ ap (λ o. long_or_other c waiting word o h) is.no_long ∙ ap (λ o. short_or_plain c waiting word o h) is.no_short

  value_fault : (waiting : Waiting) (word : Text) (h : Held) → IsValueWord word → word_fault s [] false waiting word h ≡ []
  value_fault waiting word h is =
      fault_is waiting word h is.no_hyphens ∙ ap (λ o. flag_word_fault c false o word h) is.no_long ∙ ap (λ o. option_map_or (λ flags. bundle_fault c false flags h) o []) is.no_short

  named_met : (waiting : Waiting) (word name : Text) (given : Option Text) (h : Held) → IsNamed word name given
      → word_met c [] false waiting 1 word h ≡ long_word c waiting word name given h
  named_met waiting word name given h is = met_is waiting word h is.no_hyphens ∙ ap (λ o. long_or_other c waiting word o h) is.reads

  named_fault : (waiting : Waiting) (word name : Text) (given : Option Text) (h : Held) → IsNamed word name given
      → word_fault s [] false waiting word h ≡ long_fault c false (arg_by_long c name) given h
  named_fault waiting word name given h is = fault_is waiting word h is.no_hyphens ∙ ap (λ o. flag_word_fault c false o word h) is.reads

  turn_is : (rows : List Row) (pending : Option (Text × List Text)) (waiting : Waiting) (word : Text) (met : Held × Step) (fault : Kinds)
      → word_met c [] false waiting 1 word (at rows pending) ≡ met → word_fault s [] false waiting word (at rows pending) ≡ fault
      → (turn_fault s [] (at_walk rows pending waiting) word ≡ or_else fault (step_fault s 1 met.0 met.1))
      × (walked c [] (at_walk rows pending waiting) word ≡ after_step c word (at_walk rows pending waiting) met.0 met.1)
  unfolding walked
  turn_is rows pending waiting word met fault m f = (
    ap₂ (λ (k : Kinds) (h : Held × Step). or_else k (step_fault s 1 h.0 h.1)) f m,
    ap (λ (h : Held × Step). after_step c word (at_walk rows pending waiting) h.0 h.1) m,
  )

  -- ---- a value that stands alone

  free_word : (waiting : Waiting) (word : Text) (h : Held) → IsFree waiting → plain_word c waiting word h ≡ (h, value)
  free_word idle word h free = refl
  free_word positional word h free = refl
  free_word (option name) word h free = absurd free

  abbrev alone_walk : Text → Held → Walk
  alone_walk word h = record { held = pushed alone_id word h; waiting = positional; position = 1; is_trailing = false; stopped = None }

  pub alone_goes : (rows : List Row) (last : Option Use) (waiting : Waiting) (word : Text) → IsFree waiting → IsUse last → IsValueWord word
      → Goes (stand rows last waiting) word (stand (all_rows rows last) (Some (alone_id, word)) positional)
  alone_goes rows last waiting word free known is =
      let h : Held = held rows last in
      let turn = turn_is rows h.pending waiting word (h, value) [] (value_met waiting word h is ∙ free_word waiting word h free) (value_fault waiting word h is) in
      let none = and-false (is_pending filled_alone h.pending) in
      record {
        fault = turn.0 ∙ ap (λ (b : Bool). cond b [] (settle_fault c false h)) none ∙ no_owing rows last known;
        walk = turn.1 ∙ ap (λ (b : Bool). alone_walk word (cond b h (settled c h))) none ∙ ap (alone_walk word) (settles rows last known);
      }

  -- ---- an option

  -- its name, with its value in the next word
  pub name_goes : (rows : List Row) (last : Option Use) (waiting : Waiting) (word name : Text) → IsUse last → IsNamed word name None
      → arg_by_long c name ≡ Some (filled_option name) → Goes (stand rows last waiting) word (want (all_rows rows last) name)
  name_goes rows last waiting word name known is found =
      let h : Held = held rows last in
      let turn = turn_is rows h.pending waiting word (record (settled c h) { pending = Some (name, []) }, next (option name)) []
      (named_met waiting word name None h is ∙ ap (λ o. after_flag c waiting word (long_met c o None h).0 (long_met c o None h).1) found)
      (named_fault waiting word name None h is ∙ ap (λ o. long_fault c false o None h) found ∙ no_owing rows last known) in
      record {
        fault = turn.0;
        walk = turn.1 ∙ ap (λ (k : Held). record { held = record k { pending = Some (name, []) }; waiting = option name; position = 1; is_trailing = false; stopped = None }) (settles rows last known);
      }

  -- its value
  pub value_goes : (rows : List Row) (name word : Text) (known : IsKnown names name) → IsValueWord word → Goes (want rows name) word (stand rows (Some (name, word)) idle)
  value_goes rows name word known is =
      let h : Held = record { rows = rows; pending = Some (name, []); skip = 0 } in
      let turn = turn_is rows h.pending (option name) word ((option_word (Some known.argument) name word h).0, next (option_word (Some known.argument) name word h).1) []
      (value_met (option name) word h is ∙ ap (λ o. ((option_word o name word h).0, next (option_word o name word h).1)) known.found)
      (value_fault (option name) word h is) in
      let its : bytes_eq name known.argument.id ≡ true = ap (bytes_eq name) known.is ∙ own name in
      record {
        fault = turn.0;
        walk = turn.1 ∙ ap₂ (λ (b : Bool) (most : ℕ). stand rows (Some (name, word)) (cond (nat_lt (cond b 1 0) most) (option name) idle)) its known.one;
      }

  -- the name and the value in one word
  pub joined_goes : (rows : List Row) (last : Option Use) (waiting : Waiting) (word name given : Text) → IsUse last → IsNamed word name (Some given)
      → arg_by_long c name ≡ Some (filled_option name) → Goes (stand rows last waiting) word (stand (add name given (all_rows rows last)) None idle)
  joined_goes rows last waiting word name given known is found =
      let h : Held = held rows last in
      let turn = turn_is rows h.pending waiting word ((long_met c (Some (filled_option name)) (Some given) h).0, next idle) []
      (named_met waiting word name (Some given) h is ∙ ap (λ o. after_flag c waiting word (long_met c o (Some given) h).0 (long_met c o (Some given) h).1) found)
      (named_fault waiting word name (Some given) h is ∙ ap (λ o. long_fault c false o (Some given) h) found ∙ ap₂ or_else (no_owing rows last known) refl) in
      record {
        fault = turn.0;
        walk = turn.1 ∙ ap (λ (k : Held). stand (add name given k.rows) None idle) (settles rows last known);
      }

  -- a flag
  pub flag_goes : (rows : List Row) (last : Option Use) (waiting : Waiting) (word name : Text) → IsUse last → IsNamed word name None
      → arg_by_long c name ≡ Some (filled_flag name) → Goes (stand rows last waiting) word (stand (add name [] (all_rows rows last)) None idle)
  flag_goes rows last waiting word name known is found =
      let h : Held = held rows last in
      let turn = turn_is rows h.pending waiting word ((long_met c (Some (filled_flag name)) None h).0, next idle) []
      (named_met waiting word name None h is ∙ ap (λ o. after_flag c waiting word (long_met c o None h).0 (long_met c o None h).1) found)
      (named_fault waiting word name None h is ∙ ap (λ o. long_fault c false o None h) found ∙ ap₂ or_else (no_owing rows last known) refl) in
      record {
        fault = turn.0;
        walk = turn.1 ∙ ap (λ (k : Held). stand (add name [] k.rows) None idle) (settles rows last known);
      }

  -- ---- faults

  abbrev pub IsFaulty : Walk → Text → Type 0
  IsFaulty w word = (k : ErrorKind) × (ks : Kinds) × (turn_fault s [] w word ≡ k ∷ ks)

  faulty : (rows : List Row) (pending : Option (Text × List Text)) (waiting : Waiting) (word name : Text) (given : Option Text) (k : ErrorKind) → IsNamed word name given
      → long_fault c false (arg_by_long c name) given (at rows pending) ≡ k ∷ [] → IsFaulty (at_walk rows pending waiting) word
  faulty rows pending waiting word name given k is fault =
      (k, [], (turn_is rows pending waiting word _ _ refl (named_fault waiting word name given (at rows pending) is ∙ fault)).0)

  -- if no option has the name
  pub unknown_faulty : (rows : List Row) (pending : Option (Text × List Text)) (waiting : Waiting) (word name : Text) (given : Option Text) → IsNamed word name given
      → arg_by_long c name ≡ None → IsFaulty (at_walk rows pending waiting) word
  unknown_faulty rows pending waiting word name given is none =
      faulty rows pending waiting word name given UnknownArgument is (ap (λ o. long_fault c false o given (at rows pending)) none)

  -- if an option waits for its value
  pub unfilled : (rows : List Row) (name : Text) → IsKnown names name → settle_fault c false (want rows name).held ≡ InvalidValue ∷ []
  unfilled rows name known = ap (λ o. option_map_or (λ r. use_fault false r [] rows) o []) known.found ∙ known.wants rows

  pub wanting_faulty : (rows : List Row) (word other name : Text) (given : Option Text) → IsKnown names other → IsNamed word name given
      → arg_by_long c name ≡ Some (filled_option name) → IsFaulty (want rows other) word
  wanting_faulty rows word other name given known is found =
      faulty rows (Some (other, [])) (option other) word name given InvalidValue is (ap (λ o. long_fault c false o given (want rows other).held) found ∙ both given)
    where
      both : (o : Option Text) → long_fault c false (Some (filled_option name)) o (want rows other).held ≡ InvalidValue ∷ []
      both None = unfilled rows other known
      both (Some v) = ap (λ k. or_else k (use_fault false (filled_option name) (v ∷ []) (settled c (want rows other).held).rows)) (unfilled rows other known)

  -- if a flag has a value, and where it stands in the place of one
  pub valued_flag_faulty : (rows : List Row) (pending : Option (Text × List Text)) (waiting : Waiting) (word name given : Text) → IsNamed word name (Some given)
      → arg_by_long c name ≡ Some (filled_flag name) → IsFaulty (at_walk rows pending waiting) word
  valued_flag_faulty rows pending waiting word name given is found =
      faulty rows pending waiting word name (Some given) TooManyValues is (ap (λ o. long_fault c false o (Some given) (at rows pending)) found)

  pub wanting_flag_faulty : (rows : List Row) (word other name : Text) → IsKnown names other → IsNamed word name None
      → arg_by_long c name ≡ Some (filled_flag name) → IsFaulty (want rows other) word
  wanting_flag_faulty rows word other name known is found =
      faulty rows (Some (other, [])) (option other) word name None InvalidValue is
      (ap (λ o. long_fault c false o None (want rows other).held) found
      ∙ ap (λ k. or_else k (use_fault false (filled_flag name) [] (settled c (want rows other).held).rows)) (unfilled rows other known))
