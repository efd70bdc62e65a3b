-- A file has one snapshot, and so has a journal.
use Rattle.checkpoint_store.proofs.Names.{◌≡◌, ◌⊎◌, inl, inr, ℕ, zero, suc, ◌*◌, ◌<◌, ◌≤◌, List, [], ◌∷◌, ◌++◌, length, map, take, drop, get_or, refl, sym, ap, subst, ◌∙◌, arith, append-nil, None, get_or-map, get_or-take, length-map, take-append-drop, take-append-le, take-map, take-take, take_at, drop_at, AllByRecursion, flat_map, balances, IsAccepted, judge, IsSound, Command, Policy, IsValid, Front, Snapshot, CheckpointBytes, IsSnapshotOf, IsFirstBadBody, IsSnapshotOfAll, IsSnapshotOfFront, IsTrueCheckpoint, policy_bytes}
use Rattle.std.proofs.Math.Seq.{drop-cons}
use Rattle.policy_machine.proofs.JudgeLemmas.{accepted_at}
use Rattle.record_codec.specs.Spelling.{spelling_of}
use Rattle.record_codec.proofs.SpellingLemmas.{one_command}
use Rattle.checkpoint_store.proofs.Behind.{length-policy_bytes}
use Rattle.checkpoint_store.proofs.InStore.{checkpoint_parts, front_for, one_policy}
use Rattle.checkpoint_store.proofs.StartSteps.{one_front}

-- no bytes spell two lists of as many sound policies
one_list_of_policies : (ps qs : List Policy) → length ps ≡ length qs → AllByRecursion IsSound ps → AllByRecursion IsSound qs
    → flat_map policy_bytes ps ≡ flat_map policy_bytes qs → ps ≡ qs
one_list_of_policies [] [] long sound_p sound_q same = refl
one_list_of_policies [] (q ∷ qs) long sound_p sound_q same = absurd (omega (arith, long))
one_list_of_policies (p ∷ ps) [] long sound_p sound_q same = absurd (omega (arith, long))
one_list_of_policies (p ∷ ps) (q ∷ qs) long sound_p sound_q same =
    let rest_p : List ℕ = flat_map policy_bytes ps in
    let rest_q : List ℕ = flat_map policy_bytes qs in
    let first : policy_bytes p ≡ policy_bytes q =
    sym (take_at (policy_bytes p) rest_p 48 (length-policy_bytes p)) ∙ ap (λ (l : List ℕ). take 48 l) same ∙ take_at (policy_bytes q) rest_q 48 (length-policy_bytes q) in
    let rest : rest_p ≡ rest_q =
    sym (drop_at (policy_bytes p) rest_p 48 (length-policy_bytes p)) ∙ ap (λ (l : List ℕ). drop 48 l) same ∙ drop_at (policy_bytes q) rest_q 48 (length-policy_bytes q) in
    let head : p ≡ q = one_policy (policy_bytes p) p q sound_p.0 sound_q.0 refl first in
    let tail : ps ≡ qs = one_list_of_policies ps qs (omega (arith, long)) sound_p.1 sound_q.1 rest in
    λ i. head i ∷ tail i

pub one_snapshot : (file : List ℕ) (s t : Snapshot) → CheckpointBytes file s → CheckpointBytes file t → s ≡ t
one_snapshot file s t is_s is_t =
    let of_s = checkpoint_parts file s is_s in
    let of_t = checkpoint_parts file t is_t in
    let front : front_for s ≡ front_for t = one_front file s t is_s is_t in
    let many : length s.book ≡ length t.book = ap (λ (f : Front). f.policies) front in
    let spelled : flat_map policy_bytes s.book ≡ flat_map policy_bytes t.book =
    sym of_s.policies.spelled ∙ ap (λ n. take (48 * n) (drop 64 file)) many ∙ of_t.policies.spelled in
    let book : s.book ≡ t.book = one_list_of_policies s.book t.book many is_s.sound.sound is_t.sound.sound spelled in
    λ i. record { position = (front i).position; upgrade = (front i).upgrade; ledger = (front i).ledger; book = book i }

-- no bodies spell two lists of valid commands
one_list_of_commands : (cs ds : List Command) → AllByRecursion IsValid cs → AllByRecursion IsValid ds → map spelling_of cs ≡ map spelling_of ds → cs ≡ ds
one_list_of_commands [] [] valid_c valid_d same = refl
one_list_of_commands [] (d ∷ ds) valid_c valid_d same = let long = ap (λ (l : List (List ℕ)). length l) same in absurd (omega (arith, long))
one_list_of_commands (c ∷ cs) [] valid_c valid_d same = let long = ap (λ (l : List (List ℕ)). length l) same in absurd (omega (arith, long))
one_list_of_commands (c ∷ cs) (d ∷ ds) valid_c valid_d same =
    let first : spelling_of c ≡ spelling_of d = ap (λ (l : List (List ℕ)). get_or l 0 []) same in
    let rest : map spelling_of cs ≡ map spelling_of ds = ap (λ (l : List (List ℕ)). drop 1 l) same in
    let head : c ≡ d = one_command (spelling_of d) c d (record { valid = valid_c.0; spelled = sym first }) (record { valid = valid_d.0; spelled = refl }) in
    let tail : cs ≡ ds = one_list_of_commands cs ds valid_c.1 valid_d.1 rest in
    λ i. head i ∷ tail i

-- commands leave one snapshot
left_one : (commands : List Command) (s t : Snapshot) → IsSnapshotOf commands s → IsSnapshotOf commands t → s ≡ t
left_one commands s t of_s of_t =
    let position : s.position ≡ t.position = of_s.position ∙ sym of_t.position in
    let upgrade : s.upgrade ≡ t.upgrade = of_s.upgrade ∙ sym of_t.upgrade in
    let book : s.book ≡ t.book = of_s.policies ∙ sym of_t.policies in
    let accounts : balances s.ledger ≡ balances t.ledger = of_s.ledger ∙ sym of_t.ledger in
    λ i. record {
      position = position i;
      upgrade = upgrade i;
      ledger = record { cash = (accounts i).cash; premiums = (accounts i).premiums; incurred = (accounts i).incurred; payable = (accounts i).payable };
      book = book i;
    }

pub one_of_all : (bodies : List (List ℕ)) (s t : Snapshot) → IsSnapshotOfAll bodies s → IsSnapshotOfAll bodies t → s ≡ t
one_of_all bodies s t of_s of_t =
    let same : of_t.commands ≡ of_s.commands = one_list_of_commands of_t.commands of_s.commands of_t.valid of_s.valid (sym of_t.spelled ∙ of_s.spelled) in
    left_one of_s.commands s t of_s.snapshot (subst (λ commands. IsSnapshotOf commands t) same of_t.snapshot)

-- the snapshot of all bodies is that of a front
pub front_of_all : (bodies : List (List ℕ)) (s : Snapshot) → IsSnapshotOfAll bodies s → IsSnapshotOfFront bodies s
front_of_all bodies s all =
    let count : s.position ≡ length bodies = all.snapshot.position ∙ sym (length-map all.commands spelling_of) ∙ ap (λ (l : List (List ℕ)). length l) (sym all.spelled) in
    let whole : take (length bodies) bodies ≡ bodies = ap (λ (l : List (List ℕ)). take (length bodies) l) (sym (append-nil bodies)) ∙ take_at bodies [] (length bodies) refl in
    record {
      commands = all.commands;
      spelled = ap (λ n. take n bodies) count ∙ whole ∙ all.spelled;
      valid = all.valid;
      accepted = all.accepted;
      snapshot = all.snapshot;
    }

-- and stays so where bodies are added
pub front_longer : (bodies more : List (List ℕ)) (s : Snapshot) → IsSnapshotOfFront bodies s → IsSnapshotOfFront (bodies ++ more) s
front_longer bodies more s front =
    let count : length (take s.position bodies) ≡ s.position =
    ap (λ (l : List (List ℕ)). length l) front.spelled ∙ length-map front.commands spelling_of ∙ sym front.snapshot.position in
    record {
      commands = front.commands;
      spelled = take-append-le s.position bodies more (reaches s.position bodies count) ∙ front.spelled;
      valid = front.valid;
      accepted = front.accepted;
      snapshot = front.snapshot;
    }
  where
    reaches : (n : ℕ) (l : List (List ℕ)) → length (take n l) ≡ n → n ≤ length l
    reaches zero l same = omega arith
    reaches (suc n) [] same = absurd (omega (arith, same))
    reaches (suc n) (x ∷ l) same = let rest = reaches n l (omega (arith, same)) in omega (arith, rest)

pub saved_true : (file : List ℕ) (bodies : List (List ℕ)) (s : Snapshot) → CheckpointBytes file s → IsSnapshotOfFront bodies s → IsTrueCheckpoint file bodies
saved_true file bodies s is front = λ t is_t. subst (IsSnapshotOfFront bodies) (one_snapshot file s t is is_t) front

-- valid and accepted commands, and what stands among them
all_valid_at : (cs : List Command) (n : ℕ) (d : Command) → n < length cs → AllByRecursion IsValid cs → IsValid (get_or cs n d)
all_valid_at [] n d within all = absurd (omega (arith, within))
all_valid_at (c ∷ cs) zero d within all = all.0
all_valid_at (c ∷ cs) (suc n) d within all = all_valid_at cs n d (omega (arith, within)) all.1

take_valid : (cs : List Command) (n : ℕ) → AllByRecursion IsValid cs → AllByRecursion IsValid (take n cs)
take_valid cs zero all = tt
take_valid [] (suc n) all = tt
take_valid (c ∷ cs) (suc n) all = (all.0, take_valid cs n all.1)

-- a body among those of accepted commands isn't bad
not_bad : (bodies : List (List ℕ)) (n many : ℕ) (cs : List Command) → take many bodies ≡ map spelling_of cs → AllByRecursion IsValid cs → IsAccepted cs → n < length cs → n < many
    → IsFirstBadBody bodies n → ⊥
not_bad bodies n many [] spelled valid accepted within fewer bad = absurd (omega (arith, within))
not_bad bodies n many (first ∷ rest) spelled valid accepted within fewer bad =
    let cs : List Command = first ∷ rest in
    let c : Command = get_or cs n first in
    let split : cs ≡ take n cs ++ c ∷ drop (suc n) cs =
    sym (take-append-drop n cs) ∙ ap (λ (l : List Command). take n cs ++ l) (drop-cons cs n first within) in
    let here : get_or bodies n [] ≡ spelling_of c =
    sym (get_or-take many bodies n [] fewer) ∙ ap (λ (l : List (List ℕ)). get_or l n []) spelled ∙ get_or-map spelling_of cs n first [] within in
    let front : take n bodies ≡ map spelling_of (take n cs) =
    sym (take-take n many bodies (omega (arith, fewer))) ∙ ap (λ (l : List (List ℕ)). take n l) spelled ∙ take-map spelling_of n cs in
    let same : take n cs ≡ bad.commands = one_list_of_commands (take n cs) bad.commands (take_valid cs n valid) bad.valid (sym front ∙ bad.spelled) in
    let judged : judge (take n cs) c ≡ None = accepted_at [] (take n cs) (drop (suc n) cs) c (subst IsAccepted split accepted) in
    bad.none c here (all_valid_at cs n first within valid) (subst (λ commands. judge commands c ≡ None) same judged)

pub all_or_bad : (bodies : List (List ℕ)) (s : Snapshot) (n : ℕ) → IsSnapshotOfAll bodies s → IsFirstBadBody bodies n → ⊥
all_or_bad bodies s n all bad =
    let whole : take (length bodies) bodies ≡ bodies = ap (λ (l : List (List ℕ)). take (length bodies) l) (sym (append-nil bodies)) ∙ take_at bodies [] (length bodies) refl in
    let count : length bodies ≡ length all.commands = ap (λ (l : List (List ℕ)). length l) all.spelled ∙ length-map all.commands spelling_of in
    not_bad bodies n (length bodies) all.commands (whole ∙ all.spelled) all.valid all.accepted (omega (arith, bad.within, count)) bad.within bad

-- the first bad body is one
not_earlier : (bodies : List (List ℕ)) (n m : ℕ) → IsFirstBadBody bodies n → IsFirstBadBody bodies m → n < m → ⊥
not_earlier bodies n m bad_n bad_m before =
    not_bad bodies n m bad_m.commands bad_m.spelled bad_m.valid bad_m.accepted (omega (arith, before, bad_m.counted)) before bad_n

abbrev Ordered : ℕ → ℕ → Type 0
Ordered a b = (a < b) ⊎ (b < a) ⊎ (a ≡ b)

pub one_bad : (bodies : List (List ℕ)) (n m : ℕ) → IsFirstBadBody bodies n → IsFirstBadBody bodies m → n ≡ m
one_bad bodies n m bad_n bad_m = by_order (total n m)
  where
    shift : (a b : ℕ) → Ordered a b → Ordered (suc a) (suc b)
    shift a b (inl less) = inl (omega (arith, less))
    shift a b (inr (inl more)) = inr (inl (omega (arith, more)))
    shift a b (inr (inr same)) = inr (inr (omega (arith, same)))

    total : (a b : ℕ) → Ordered a b
    total zero zero = inr (inr refl)
    total zero (suc b) = inl (omega arith)
    total (suc a) zero = inr (inl (omega arith))
    total (suc a) (suc b) = shift a b (total a b)

    by_order : Ordered n m → n ≡ m
    by_order (inl less) = absurd (not_earlier bodies n m bad_n bad_m less)
    by_order (inr (inl more)) = absurd (not_earlier bodies m n bad_m bad_n more)
    by_order (inr (inr same)) = same
