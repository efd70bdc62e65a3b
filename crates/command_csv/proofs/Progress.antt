-- How far a script is read: these rows are after, and these lines were on them
use Rattle.command_csv.proofs.Names.{◌≡◌, ℕ, ◌+◌, List, [], ◌∷◌, ◌++◌, length, Option, Some, Bor, true, false, inl, Bool, ◌≤◌, ap, sym, ◌∙◌, append_assoc, length-append, arith, subst, AllZip, filter, map-append, Reached, ReadRecord, Ready, default_config, is_flexible, strip_bom, source_of, reader_config, reader_state, reader_trim, took_first, Line, Lane, rows_of, ClerkLine, IsLineRow, AreLineRows, IsFirstBadField, IsFirstScriptFault, Reads, is_valuation, valuations_in, all_lines, most_valuations, lanes_of, IsNextRow}
use Rattle.std.specs.Prelude.{Result, IfOk}
use Rattle.std.proofs.lemmas.List.Elements.{filter-append}
use Rattle.std.proofs.lemmas.Result.{IfOk-weaker}
use Rattle.csv.proofs.ReadFacts.{rows-more, rows-end as csv_end}
use Rattle.csv.specs.declared.parser.State.TheVariants as st
use Rattle.csv.specs.declared.reader.Reader.{Reader}
use Rattle.csv.specs.declared.reader.Trim.TheVariants as trim
use Rattle.command_csv.specs.declared.fault.ScriptFault.{ScriptFault}
use Rattle.command_csv.proofs.Clerks.{room_counted}
use Rattle.command_csv.proofs.Records.{rows_begin, rows_end, rows_few}

-- the reader of rows stands after these rows, each of which is a line's
pub record IsReadTo (bytes : List ℕ) (rows : Reader (Bor (List ℕ))) (count valuations : ℕ) (entries : List ClerkLine) : Type 0 where
  pub plain : reader_trim rows ≡ trim.None
  pub ready : Ready rows
  pub flexible : is_flexible rows ≡ true
  pub config : reader_config rows ≡ default_config
  pub left : List ℕ
  pub source : source_of (λ (s : Bor (List ℕ)). Some s.now) rows ≡ Some left
  pub behind : List (List (List ℕ))
  pub reached : Reached default_config st.StartRecord (strip_bom bytes) behind (reader_state rows) left
  pub number : count ≡ length behind
  pub right : AreLineRows behind entries
  pub valued : valuations ≡ valuations_in (all_lines entries)

-- at first none is read
pub none_read : {entries : List ClerkLine} → entries ≡ [] → AreLineRows [] entries
none_read {entries} e = subst (λ (es : List ClerkLine). AreLineRows [] es) (sym e) record { each = tt; few = omega arith }

pub none_valued : {entries : List ClerkLine} → entries ≡ [] → 0 ≡ valuations_in (all_lines entries)
none_valued {entries} e = ap (λ (es : List ClerkLine). valuations_in (all_lines es)) (sym e)

push : (rows : List (List (List ℕ))) (entries : List ClerkLine) (row : List (List ℕ)) (entry : ClerkLine) → AllZip IsLineRow rows entries → IsLineRow row entry → AllZip IsLineRow (rows ++ row ∷ []) (entries ++ entry ∷ [])
push [] [] row entry h r = (r, tt)
push [] (e ∷ es) row entry h r = absurd h
push (x ∷ xs) [] row entry h r = absurd h
push (x ∷ xs) (e ∷ es) row entry h r = (h.0, push xs es row entry h.1 r)

-- one more line, and its share in the valuations
more_valued : (entries : List ClerkLine) (entry : ClerkLine) → valuations_in (all_lines (entries ++ entry ∷ [])) ≡ valuations_in (all_lines entries) + valuations_in (entry.line ∷ [])
more_valued entries entry =
    let line : ClerkLine → Line = λ e. e.line in
    ap valuations_in (map-append line entries (entry ∷ [])) ∙ ap (λ (xs : List Line). length xs) (filter-append is_valuation (all_lines entries) (entry.line ∷ []))
    ∙ length-append (filter is_valuation (all_lines entries)) (filter is_valuation (entry.line ∷ []))

pub one_more : (rows : List (List (List ℕ))) (entries more : List ClerkLine) (row : List (List ℕ)) (entry : ClerkLine) → AreLineRows rows entries → IsNextRow (valuations_in (all_lines entries)) row entry → more ≡ entries ++ entry ∷ []
    → AreLineRows (rows ++ row ∷ []) more
one_more rows entries more row entry h r e =
    subst (λ (es : List ClerkLine). AreLineRows (rows ++ row ∷ []) es) (sym e) record {
      each = push rows entries row entry h.each r.is;
      few = omega (arith, more_valued entries entry, room_counted (valuations_in (all_lines entries)) entry.line h.few r.room);
    }

abbrev left_in : Bor (List ℕ) → Option (List ℕ)
left_in s = Some s.now

pub found : (old new : Reader (Bor (List ℕ))) (there wanted : Bool) (row : List (List ℕ)) → there ≡ wanted → ReadRecord left_in old new there row → ReadRecord left_in old new wanted row
found old new there wanted row e r = subst (λ (b : Bool). ReadRecord left_in old new b row) e r

-- one more row is reached
goes : (bytes : List ℕ) (old new : Reader (Bor (List ℕ))) (count valuations : ℕ) (entries : List ClerkLine) (row : List (List ℕ)) (h : IsReadTo bytes old count valuations entries) → ReadRecord left_in old new true row
    → (left : List ℕ) × (source_of left_in new ≡ Some left) × Reached default_config st.StartRecord (strip_bom bytes) (h.behind ++ row ∷ []) (reader_state new) left
goes bytes old new count valuations entries row h r = rows-more left_in old new row default_config st.StartRecord (strip_bom bytes) h.left h.behind h.config h.source h.reached r

-- a script has no more rows than bytes
pub row_counted : (bytes : List ℕ) (old new : Reader (Bor (List ℕ))) (count valuations : ℕ) (entries : List ClerkLine) (row : List (List ℕ)) → IsReadTo bytes old count valuations entries → ReadRecord left_in old new true row → count + 1 ≤ length bytes
row_counted bytes old new count valuations entries row h r =
    let g = goes bytes old new count valuations entries row h r in
    omega (arith, rows_few bytes (h.behind ++ row ∷ []) (reader_state new) g.0 g.2, length-append h.behind (row ∷ []), h.number)

pub row_right : (bytes : List ℕ) (old new : Reader (Bor (List ℕ))) (count valuations share : ℕ) (entries more : List ClerkLine) (row : List (List ℕ)) (entry : ClerkLine) → IsReadTo bytes old count valuations entries
    → ReadRecord left_in old new true row → took_first new ≡ true → is_flexible new ≡ true → IsNextRow valuations row entry → share ≡ valuations_in (entry.line ∷ []) → more ≡ entries ++ entry ∷ []
    → IsReadTo bytes new (count + 1) (valuations + share) more
row_right bytes old new count valuations share entries more row entry h r first flexible is shared e =
    let g = goes bytes old new count valuations entries row h r in
    let counts : valuations_in (all_lines more) ≡ valuations_in (all_lines (entries ++ entry ∷ [])) = ap (λ (es : List ClerkLine). valuations_in (all_lines es)) e in
    record {
      plain = r.3 ∙ h.plain;
      ready = inl first;
      flexible = flexible;
      config = r.2 ∙ h.config;
      left = g.0;
      source = g.1;
      behind = h.behind ++ row ∷ [];
      reached = g.2;
      number = omega (arith, length-append h.behind (row ∷ []), h.number);
      right = one_more h.behind entries more row entry h.right (subst (λ (n : ℕ). IsNextRow n row entry) h.valued is) e;
      valued = omega (arith, counts, more_valued entries entry, shared, h.valued);
    }

-- the valuations are few, and so is one more
pub few_valued : (bytes : List ℕ) (old : Reader (Bor (List ℕ))) (count valuations share : ℕ) (entries : List ClerkLine) (row : List (List ℕ)) (entry : ClerkLine) → IsReadTo bytes old count valuations entries
    → IsNextRow valuations row entry → share ≡ valuations_in (entry.line ∷ []) → valuations + share ≤ most_valuations
few_valued bytes old count valuations share entries row entry h is shared =
    omega (arith, room_counted valuations entry.line (omega (arith, h.valued, h.right.few)) is.room, shared)

-- the row after those that are right is the first fault
pub row_faulty : (bytes : List ℕ) (old new : Reader (Bor (List ℕ))) (count valuations field : ℕ) (entries : List ClerkLine) (row : List (List ℕ)) → IsReadTo bytes old count valuations entries → ReadRecord left_in old new true row
    → IsFirstBadField valuations row field → IsFirstScriptFault bytes (count + 1) field
row_faulty bytes old new count valuations field entries row h r bad =
    let g = goes bytes old new count valuations entries row h r in
    let rest = rows_begin bytes (h.behind ++ row ∷ []) (reader_state new) g.0 g.2 in
    record {
      before = h.behind;
      faulty = row;
      after = rest.0;
      rows = rest.1 ∙ append_assoc h.behind (row ∷ []) rest.0;
      number = omega (arith, h.number);
      entries = entries;
      right = h.right;
      bad = subst (λ (n : ℕ). IsFirstBadField n row field) h.valued bad;
    }

-- if no row is left, all are right
pub no_row : (bytes : List ℕ) (old new : Reader (Bor (List ℕ))) (count valuations : ℕ) (entries : List ClerkLine) (row : List (List ℕ)) → IsReadTo bytes old count valuations entries → ReadRecord left_in old new false row
    → AreLineRows (rows_of bytes) entries
no_row bytes old new count valuations entries row h r =
    let none = csv_end left_in old new row default_config h.left h.config h.source r in
    subst (λ (rows : List (List (List ℕ))). AreLineRows rows entries) (sym (rows_end bytes h.behind (reader_state old) h.left h.reached none)) h.right

pub script_read : (bytes : List ℕ) (entries : List ClerkLine) (script : Result (List Lane) ScriptFault) → AreLineRows (rows_of bytes) entries → IfOk script (λ lanes. lanes ≡ lanes_of entries) → IfOk script (Reads bytes)
script_read bytes entries script h made = IfOk-weaker script (λ lanes. lanes ≡ lanes_of entries) (Reads bytes) (λ lanes e. record { entries = entries; rows = h; by_clerk = e }) made
