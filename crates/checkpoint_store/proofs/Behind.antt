-- What stands behind the gate of a file, and what an open gate makes of it.
use Rattle.checkpoint_store.proofs.Names.{◌≡◌, ◌⊎◌, inl, inr, ℕ, ◌+◌, ◌*◌, ◌≤◌, List, [], ◌∷◌, ◌++◌, length, take, drop, get_or, refl, sym, ◌∙◌, ap, subst, arith, append_assoc, length-append, cases_eq, take-append-drop, take-take, drop-drop, drop-take, length-take-le, take_at, flat_map, Holds, Torn, Policy, Snapshot, CheckpointBytes, IsNoCheckpoint, IsSoundSnapshot, policy_bytes, snapshot_bytes, StandBehindGate, IsShut}
use Rattle.std.proofs.lemmas.Grind.{flat_map-append}
use Rattle.posting_journal.proofs.Bytes.{same_byte, same_part, written}

-- the bytes that stood there, and those that were written right behind them
pub behind_more : (part bytes old new : List ℕ) (at : ℕ) → at ≡ 1 + length part → at ≤ length old → StandBehindGate part old → Holds old at bytes new → StandBehindGate (part ++ bytes) new
behind_more part bytes old new at place within stands holds =
    let n : ℕ = length part in
    let w = written old at bytes new within holds in
    let rest : List ℕ = drop (at + length bytes) old in
    let front : take n (drop 1 new) ≡ part = same_part at 1 n old new w.before (omega (arith, place)) ∙ stands in
    let back : drop n (drop 1 new) ≡ bytes ++ rest = drop-drop n 1 new ∙ ap (λ k. drop k new) (sym place) ∙ w.behind in
    let whole : drop 1 new ≡ part ++ bytes ++ rest =
    sym (take-append-drop n (drop 1 new)) ∙ ap (λ (l : List ℕ). l ++ drop n (drop 1 new)) front
    ∙ ap (λ (l : List ℕ). part ++ l) back ∙ sym (append_assoc part bytes rest) in
    ap (λ (l : List ℕ). take (length (part ++ bytes)) l) whole ∙ take_at (part ++ bytes) rest (length (part ++ bytes)) refl

-- how long the file is then
pub behind_long : (old bytes new : List ℕ) (at : ℕ) → at ≤ length old → Holds old at bytes new → at + length bytes ≤ length new
behind_long old bytes new at within holds = let w = written old at bytes new within holds in omega (arith, w.size)

-- whatever is written behind a closed gate, it stays
pub shut_torn : (at many : ℕ) (old new : List ℕ) → 1 ≤ at → IsShut old → Torn at many old new → IsShut new
shut_torn at many old new behind shut torn = record {
  there = omega (arith, shut.there, torn.no_shorter);
  shut = λ one. shut.shut (sym (same_byte at 0 old new torn.before (omega (arith, behind))) ∙ one);
}

pub shut_none : (file : List ℕ) → IsShut file → IsNoCheckpoint file
shut_none file shut = λ s c. shut.shut c.opened

-- a file whose gate is open
pub gate_first : (file : List ℕ) → get_or file 0 0 ≡ 1 → file ≡ 1 ∷ drop 1 file
gate_first [] one = let no : 0 ≡ 1 = one in absurd (omega (arith, no))
gate_first (b ∷ rest) one = ap (λ (x : ℕ). x ∷ rest) one

nothing_stands : (s : Snapshot) → StandBehindGate (snapshot_bytes s) (1 ∷ []) → ⊥
nothing_stands s stands = let no : 0 ≡ 76 = ap (λ (l : List ℕ). get_or l 0 0) stands in omega (arith, no)

-- a gate alone is no checkpoint
pub alone_none : (file : List ℕ) → length file ≡ 0 → IsNoCheckpoint (1 ∷ drop 1 file)
alone_none [] none = λ s c. nothing_stands s c.spelled
alone_none (b ∷ rest) none = absurd (omega (arith, none))

-- a file with another gate than one before is no checkpoint, or that one with its gate open
pub gate_or : (image old : List ℕ) → drop 1 image ≡ drop 1 old → IsNoCheckpoint image ⊎ (image ≡ 1 ∷ drop 1 old)
gate_or image old same = elim (cases_eq (get_or image 0 0) 1) [
  | inl one ↦ inr (gate_first image one ∙ ap (λ (l : List ℕ). 1 ∷ l) same)
  | inr other ↦ inl (λ s c. other c.opened)
]

-- a snapshot behind an open gate
pub opened : (old file : List ℕ) (s : Snapshot) → file ≡ 1 ∷ drop 1 old → StandBehindGate (snapshot_bytes s) old → IsSoundSnapshot s → CheckpointBytes file s
opened old file s is stands sound = subst (λ f. CheckpointBytes f s) (sym is) (record { opened = refl; spelled = stands; sound = sound })

pub length-policy_bytes : (p : Policy) → length (policy_bytes p) ≡ 48
unfolding policy_bytes
length-policy_bytes p = refl

pub length-policies : (policies : List Policy) → length (flat_map policy_bytes policies) ≡ 48 * length policies
length-policies [] = refl
length-policies (p ∷ rest) =
    let one = length-policy_bytes p in
    let others = length-policies rest in
    omega (arith, length-append (policy_bytes p) (flat_map policy_bytes rest), one, others)

take_parts : (n m : ℕ) (xs : List Policy) → take n xs ++ take m (drop n xs) ≡ take (n + m) xs
take_parts n m xs =
    ap (λ (l : List Policy). take n xs ++ l) (sym (drop-take n m xs))
    ∙ ap (λ (l : List Policy). l ++ drop n (take (n + m) xs)) (sym (take-take n (n + m) xs (omega arith)))
    ∙ take-append-drop n (take (n + m) xs)

-- The policies up to one, and those of a piece behind them.
pub policies_more : (front bytes old new : List ℕ) (policies : List Policy) (done many at : ℕ) → at ≡ 64 + 48 * done → done ≤ length policies → length front ≡ 63
    → bytes ≡ flat_map policy_bytes (take many (drop done policies)) → at ≤ length old → StandBehindGate (front ++ flat_map policy_bytes (take done policies)) old
    → Holds old at bytes new → StandBehindGate (front ++ flat_map policy_bytes (take (done + many) policies)) new
policies_more front bytes old new policies done many at place low size spelled within stands holds =
    let earlier : List ℕ = flat_map policy_bytes (take done policies) in
    let long : length (front ++ earlier) ≡ 63 + 48 * done =
    omega (arith, length-append front earlier, size, length-policies (take done policies), length-take-le done policies low) in
    let all : take done policies ++ take many (drop done policies) ≡ take (done + many) policies = take_parts done many policies in
    let joined : front ++ earlier ++ bytes ≡ front ++ flat_map policy_bytes (take (done + many) policies) =
    append_assoc front earlier bytes
    ∙ ap (λ (l : List ℕ). front ++ (earlier ++ l)) spelled
    ∙ ap (λ (l : List ℕ). front ++ l) (sym (flat_map-append policy_bytes (take done policies) (take many (drop done policies))))
    ∙ ap (λ (l : List Policy). front ++ flat_map policy_bytes l) all in
    subst (λ (l : List ℕ). StandBehindGate l new) joined (behind_more (front ++ earlier) bytes old new at (omega (arith, place, long)) within stands holds)
