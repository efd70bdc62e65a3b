-- What the two writes of a record leave of a journal.
use Rattle.posting_journal.proofs.Names.{◌≡◌, ◌≢◌, inl, inr, ℕ, ◌+◌, ◌<◌, ◌≤◌, List, [], ◌∷◌, ◌++◌, length, take, drop, get_or, sym, ◌∙◌, ap, subst, arith, append_assoc, length-append, take_at, get_or_at, get_or-drop, get_or_append_left, get_or_push, length_push, cases_eq, Holds, Torn, gate_place, body_place, IsMade, HasRecords, IsClosed, IsJournal, IsStaged, IsBeforeOrAfter}
use Rattle.posting_journal.proofs.Bytes.{same_shorter, same_byte, same_part, same_behind, written, written_torn}

pub made_stays : (many : ℕ) (old new : List ℕ) → take many new ≡ take many old → 17 ≤ many → IsMade old → IsMade new
made_stays many old new same long made = record {
  finished = same_byte many 0 old new same (omega arith) ∙ made.finished;
  header = same_part many 1 16 old new same (omega arith) ∙ made.header;
}

pub records_stay : (bodies : List (List ℕ)) (old new : List ℕ) → take (gate_place (length bodies)) new ≡ take (gate_place (length bodies)) old → HasRecords old bodies → HasRecords new bodies
records_stay bodies old new same records n lt =
    let was = records n lt in (
      same_byte (gate_place (length bodies)) (gate_place n) old new same (omega arith) ∙ was.0,
      same_part (gate_place (length bodies)) (body_place n) 64 old new same (omega arith) ∙ was.1,
    )

-- Whatever is written after the closed gate, the journal stays.
pub torn_stage : (bodies : List (List ℕ)) (old new : List ℕ) → IsJournal old bodies → Torn (body_place (length bodies)) 65 old new → IsJournal new bodies
torn_stage bodies old new journal torn =
    let n = length bodies in
    let front : take (gate_place n) new ≡ take (gate_place n) old = same_shorter (gate_place n) (body_place n) old new torn.before (omega arith) in
    let gate : get_or new (gate_place n) 0 ≡ get_or old (gate_place n) 0 = same_byte (body_place n) (gate_place n) old new torn.before (omega arith) in
    record {
      made = made_stays (gate_place n) old new front (omega arith) journal.made;
      records = records_stay bodies old new front journal.records;
      end = (omega (arith, journal.end.0, torn.no_shorter), λ one. journal.end.1 (sym gate ∙ one));
      few = journal.few;
    }

-- Whatever is written over the gate, the body stays staged after it.
pub torn_gate : (bodies : List (List ℕ)) (body old new : List ℕ) → IsStaged old bodies body → Torn (gate_place (length bodies)) 1 old new → IsStaged new bodies body
torn_gate bodies body old new staged torn =
    let n = length bodies in
    let place : gate_place n + 1 ≡ body_place n = omega arith in
    let behind : drop (body_place n) new ≡ drop (body_place n) old = subst (λ at. drop at new ≡ drop at old) place torn.after in
    let next : body_place n + 64 ≡ gate_place (n + 1) = omega arith in
    let gate : get_or new (gate_place (n + 1)) 0 ≡ get_or old (gate_place (n + 1)) 0 = subst (λ at. get_or new at 0 ≡ get_or old at 0) next (same_behind (body_place n) 64 old new behind) in
    record {
      made = made_stays (gate_place n) old new torn.before (omega arith) staged.made;
      records = records_stay bodies old new torn.before staged.records;
      whole = ap (λ (l : List ℕ). take 64 l) behind ∙ staged.whole;
      end = (omega (arith, staged.end.0, torn.no_shorter), λ one. staged.end.1 (sym gate ∙ one));
      fewer = staged.fewer;
    }

-- The body was written whole after the closed gate, and a closed gate after it.
pub written_stage : (bodies : List (List ℕ)) (body old new : List ℕ) → length bodies < 4000000 → length body ≡ 64 → IsJournal old bodies → Holds old (body_place (length bodies)) (body ++ 0 ∷ []) new → IsStaged new bodies body
written_stage bodies body old new fewer size journal holds =
    let n = length bodies in
    let w = written old (body_place n) (body ++ 0 ∷ []) new (omega (arith, journal.end.0)) holds in
    let long : length (body ++ 0 ∷ []) ≡ 65 = omega (arith, length-append body (0 ∷ []), size) in
    let front : take (gate_place n) new ≡ take (gate_place n) old = same_shorter (gate_place n) (body_place n) old new w.before (omega arith) in
    let rest = drop (body_place n + length (body ++ 0 ∷ [])) old in
    let behind : drop (body_place n) new ≡ body ++ 0 ∷ rest = w.behind ∙ append_assoc body (0 ∷ []) rest in
    let next : body_place n + 64 ≡ gate_place (n + 1) = omega arith in
    let there : get_or new (body_place n + 64) 0 ≡ 0 = sym (get_or-drop (body_place n) new 64 0) ∙ ap (λ (l : List ℕ). get_or l 64 0) behind ∙ get_or_at body 0 rest 0 64 size in
    let gate : get_or new (gate_place (n + 1)) 0 ≡ 0 = subst (λ at. get_or new at 0 ≡ 0) next there in
    record {
      made = made_stays (gate_place n) old new front (omega arith) journal.made;
      records = records_stay bodies old new front journal.records;
      whole = ap (λ (l : List ℕ). take 64 l) behind ∙ take_at body (0 ∷ rest) 64 size;
      end = (omega (arith, w.size, long), λ one. let clash : 0 ≡ 1 = sym gate ∙ one in absurd (omega (arith, clash)));
      fewer = fewer;
    }

-- With its gate open the staged body is a record.
pub staged_opened : (bodies : List (List ℕ)) (body bytes : List ℕ) → IsStaged bytes bodies body → get_or bytes (gate_place (length bodies)) 0 ≡ 1 → IsJournal bytes (bodies ++ body ∷ [])
staged_opened bodies body bytes staged gate =
    let n = length bodies in
    let more : length (bodies ++ body ∷ []) ≡ n + 1 = length_push bodies body in
    record {
      made = staged.made;
      records = λ k lt. elim (cases_eq k n) [
        | inl last ↦ let is : get_or (bodies ++ body ∷ []) k [] ≡ body = get_or_push bodies body [] k (sym last) in
            (subst (λ m. get_or bytes (gate_place m) 0 ≡ 1) (sym last) gate, subst (λ m. take 64 (drop (body_place m) bytes) ≡ body) (sym last) staged.whole ∙ sym is)
        | inr other ↦ let within : k < n = omega (arith, lt, more, other) in
            let is : get_or (bodies ++ body ∷ []) k [] ≡ get_or bodies k [] = get_or_append_left bodies (body ∷ []) [] k within in
            let was = staged.records k within in
            (was.0, was.1 ∙ sym is)
      ];
      end = subst (λ m. IsClosed bytes m) (sym more) staged.end;
      few = omega (arith, more, staged.fewer);
    }

-- With its gate closed it is none.
pub staged_closed : (bodies : List (List ℕ)) (body bytes : List ℕ) → IsStaged bytes bodies body → get_or bytes (gate_place (length bodies)) 0 ≢ 1 → IsJournal bytes bodies
staged_closed bodies body bytes staged shut = record {
  made = staged.made;
  records = staged.records;
  end = (omega (arith, staged.end.0), shut);
  few = omega (arith, staged.fewer);
}

pub staged_either : (bodies : List (List ℕ)) (body bytes : List ℕ) → IsStaged bytes bodies body → IsBeforeOrAfter bodies body bytes
staged_either bodies body bytes staged = elim (cases_eq (get_or bytes (gate_place (length bodies)) 0) 1) [
  | inl gate ↦ inr (staged_opened bodies body bytes staged gate)
  | inr shut ↦ inl (staged_closed bodies body bytes staged shut)
]

pub written_byte : (old : List ℕ) (at byte : ℕ) (new : List ℕ) → at ≤ length old → Holds old at (byte ∷ []) new → get_or new at 0 ≡ byte
written_byte old at byte new within holds =
    let w = written old at (byte ∷ []) new within holds in
    let place : at + 0 ≡ at = omega arith in
    let first : get_or new (at + 0) 0 ≡ byte = sym (get_or-drop at new 0 0) ∙ ap (λ (l : List ℕ). get_or l 0 0) w.behind in
    subst (λ k. get_or new k 0 ≡ byte) place first

module _ (bodies : List (List ℕ)) (body old new : List ℕ) (staged : IsStaged old bodies body) where
  pub within : gate_place (length bodies) ≤ length old
  within = omega (arith, staged.end.0)

  -- The gate was opened.
  pub written_opened : Holds old (gate_place (length bodies)) (1 ∷ []) new → IsJournal new (bodies ++ body ∷ [])
  written_opened holds =
      staged_opened bodies body new (torn_gate bodies body old new staged (written_torn old (gate_place (length bodies)) (1 ∷ []) new within holds))
      (written_byte old (gate_place (length bodies)) 1 new within holds)

  -- The gate was closed.
  pub written_closed : Holds old (gate_place (length bodies)) (0 ∷ []) new → IsJournal new bodies
  written_closed holds =
      staged_closed bodies body new (torn_gate bodies body old new staged (written_torn old (gate_place (length bodies)) (0 ∷ []) new within holds))
      (λ one. let clash : 0 ≡ 1 = sym (written_byte old (gate_place (length bodies)) 0 new within holds) ∙ one in absurd (omega (arith, clash)))
