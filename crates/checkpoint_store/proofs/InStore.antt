-- What stands in a checkpoint's file, in parts.
use Rattle.checkpoint_store.proofs.Names.{balances, ◌≡◌, nat_eq, ℕ, zero, suc, ◌+◌, ◌-◌, ◌*◌, ◌/◌, ◌<◌, ◌≤◌, min, Bool, true, false, cond, List, [], ◌∷◌, ◌++◌, length, take, drop, get_or, refl, sym, ap, subst, ◌∙◌, arith, append-nil, length-append, length-drop, Option, Some, None, is_some, true≢false, Result, Ok, Err, IfOk, IfSome, ℤ, FitsSigned, w64, eqb-false, ne_eqb, ints, drop-drop, drop-take, drop_at, get_or-take, length-take, map-append, take-append-drop, take-take, take_at, take_more, AllByRecursion, IsDistinct, flat_map, keys_of, lookup, IsSound, AreWithin, IsWithin, Policy, insert_entry, Front, NumberedBooks, Snapshot, CheckpointBytes, IsSoundSnapshot, balance_bytes, policy_bytes, position_bytes, AreKeyed, Entries, numbered_policies, AreSoundBooks, as_snapshot, IsFrontInRange, front_of, policy_of_bytes, AreBegun, AreBooksBehind, AreBytesOf, AreUpTo, BegunNext, DoFit, HasBooks, HasFront, HasPolicies, IsAddedTo, IsFrontOn, IsStored, UpToNext, WasAdded}
use Rattle.std.proofs.lemmas.Grind.{flat_map-append}
use Rattle.std.proofs.Math.Seq.{drop-append-add, drop-cons}
use Rattle.indexmap.proofs.CallerLemmas.{insert_entry-new}
use Rattle.posting_journal.proofs.Bytes.{same_part}
use Rattle.checkpoint_store.specs.declared.faults.ReopenFault.{ReopenFault}
use Rattle.checkpoint_store.proofs.Behind.{gate_first, length-policies, length-policy_bytes}
use Rattle.checkpoint_store.proofs.BookEntries.{keyed_ids}
use Rattle.checkpoint_store.proofs.Reading.{policy_read}
use Rattle.checkpoint_store.specs.inside.Storing.{policy_ids}

length-front : (f : Front) → length (front_of f) ≡ 63
unfolding balance_bytes position_bytes
length-front f = refl

-- one part after another
parts : (n m : ℕ) (l : List ℕ) → take (n + m) l ≡ take n l ++ take m (drop n l)
parts n m l =
    sym (ap (λ (r : List ℕ). take n l ++ r) (sym (drop-take n m l))
    ∙ ap (λ (r : List ℕ). r ++ drop n (take (n + m) l)) (sym (take-take n (n + m) l (omega arith)))
    ∙ take-append-drop n (take (n + m) l))

-- the policies up to one, and that one
pub spelled_more : (file : List ℕ) (ps : List Policy) (p : Policy) (i : ℕ) → take (48 * i) (drop 64 file) ≡ flat_map policy_bytes ps
    → take 48 (drop (64 + 48 * i) file) ≡ policy_bytes p → take (48 * (i + 1)) (drop 64 file) ≡ flat_map policy_bytes (ps ++ p ∷ [])
spelled_more file ps p i before here =
    let width : 48 * (i + 1) ≡ 48 * i + 48 = omega arith in
    ap (λ n. take n (drop 64 file)) width ∙ parts (48 * i) 48 (drop 64 file)
    ∙ (λ j. before j ++ take 48 (drop-drop (48 * i) 64 file j))
    ∙ ap (λ (r : List ℕ). flat_map policy_bytes ps ++ r) (here ∙ sym (append-nil (policy_bytes p)))
    ∙ sym (flat_map-append policy_bytes ps (p ∷ []))

flat_at : (ps : List Policy) (i : ℕ) (d : Policy) → i < length ps → take 48 (drop (48 * i) (flat_map policy_bytes ps)) ≡ policy_bytes (get_or ps i d)
flat_at [] i d within = absurd (omega arith)
flat_at (p ∷ ps) zero d within = take_at (policy_bytes p) (flat_map policy_bytes ps) 48 (length-policy_bytes p)
flat_at (p ∷ ps) (suc i) d within =
    let place : 48 * suc i ≡ length (policy_bytes p) + 48 * i = let long = length-policy_bytes p in omega (arith, long) in
    ap (λ n. take 48 (drop n (policy_bytes p ++ flat_map policy_bytes ps))) place
    ∙ ap (λ (l : List ℕ). take 48 l) (drop-append-add (policy_bytes p) (flat_map policy_bytes ps) (48 * i))
    ∙ flat_at ps i d (omega (arith, within))

-- the bytes of one of the policies
pub chunk : (file : List ℕ) (many : ℕ) (ps : List Policy) (i : ℕ) (d : Policy) → HasPolicies file many ps → i < many
    → take 48 (drop (64 + 48 * i) file) ≡ policy_bytes (get_or ps i d)
chunk file many ps i d has within =
    let rest : List ℕ = drop 64 file in
    let flat : List ℕ = flat_map policy_bytes ps in
    let long : length flat ≡ 48 * many = length-policies ps ∙ ap (λ n. 48 * n) has.counted in
    let whole : take (48 * many) flat ≡ flat = ap (λ (l : List ℕ). take (48 * many) l) (sym (append-nil flat)) ∙ take_at flat [] (48 * many) long in
    ap (λ (l : List ℕ). take 48 l) (sym (drop-drop (48 * i) 64 file))
    ∙ same_part (48 * many) (48 * i) 48 flat rest (has.spelled ∙ sym whole) (omega (arith, within))
    ∙ flat_at ps i d (omega (arith, within, has.counted))

-- no bytes spell two sound policies
pub one_policy : (bytes : List ℕ) (p q : Policy) → IsSound p → IsSound q → bytes ≡ policy_bytes p → bytes ≡ policy_bytes q → p ≡ q
one_policy bytes p q sound_p sound_q is_p is_q =
    let one = policy_read bytes p sound_p is_p in
    let other = policy_read bytes q sound_q is_q in
    let plan : p.plan ≡ q.plan = let same = sym one.plan ∙ other.plan in cc in
    let status : p.status ≡ q.status = let same = sym one.status ∙ other.status in cc in
    sym one.fields ∙ (λ i. policy_of_bytes bytes (plan i) (status i)) ∙ other.fields

all_at : (P : Policy → Type 0) (ps : List Policy) (i : ℕ) (d : Policy) → i < length ps → AllByRecursion P ps → P (get_or ps i d)
all_at P [] i d within all = absurd (omega arith)
all_at P (p ∷ ps) zero d within all = all.0
all_at P (p ∷ ps) (suc i) d within all = all_at P ps i d (omega (arith, within)) all.1

-- a policy that was read is the next of those that stand there
pub only_more : (file : List ℕ) (many : ℕ) (ps before : List Policy) (p : Policy) (i : ℕ) → HasPolicies file many ps → i < many → take i ps ≡ before
    → IsSound p → take 48 (drop (64 + 48 * i) file) ≡ policy_bytes p → take (i + 1) ps ≡ before ++ p ∷ []
only_more file many ps before p i has within same sound is =
    let inside : i < length ps = omega (arith, within, has.counted) in
    let here : get_or ps i p ≡ p =
    one_policy (policy_bytes (get_or ps i p)) (get_or ps i p) p (all_at IsSound ps i p inside has.sound) sound refl (sym (chunk file many ps i p has within) ∙ is) in
    take_more ps i p inside ∙ (λ j. same j ++ here j ∷ [])

-- a number that isn't among those before it isn't found
not_found : (es : Entries) (p : Policy) (back : List Policy) → AreKeyed es → IsDistinct nat_eq (policy_ids (numbered_policies es ++ p ∷ back)) → lookup (nat_eq p.id) es ≡ None
unfolding IsDistinct
not_found [] p back keyed distinct = refl
not_found (e ∷ es) p back keyed distinct =
    let apart : nat_eq e.1.id p.id ≡ false = middle (numbered_policies es) distinct.0 in
    let key : nat_eq p.id e.0 ≡ false = ne_eqb p.id e.0 (λ same. eqb-false e.1.id p.id apart (sym (same ∙ keyed.0))) in
    ap (λ b. cond b (Some e.1) (lookup (nat_eq p.id) es)) key ∙ not_found es p back keyed.1 distinct.1
  where
    middle : (front : List Policy) → AllByRecursion (λ y. nat_eq e.1.id y ≡ false) (policy_ids (front ++ p ∷ back)) → nat_eq e.1.id p.id ≡ false
    middle [] all = all.0
    middle (q ∷ front) all = middle front all.1

-- where the next policy can't be added there are none
pub none_more : (file : List ℕ) (many : ℕ) (ps : List Policy) (es : Entries) (i : ℕ) (bytes : List ℕ) → HasPolicies file many ps → i < many
    → AreKeyed es → take i ps ≡ numbered_policies es → bytes ≡ take 48 (drop (64 + 48 * i) file)
    → ((policy : Policy) → IsSound policy → bytes ≡ policy_bytes policy → lookup (nat_eq policy.id) es ≡ None → ⊥) → ⊥
none_more file many [] es i bytes has within keyed same is none = absurd (omega (arith, within, has.counted))
none_more file many (first ∷ rest) es i bytes has within keyed same is none =
    let ps : List Policy = first ∷ rest in
    let p : Policy = get_or ps i first in
    let inside : i < length ps = omega (arith, within, has.counted) in
    let split : ps ≡ numbered_policies es ++ p ∷ drop (suc i) ps =
    sym (take-append-drop i ps) ∙ (λ j. same j ++ drop i ps) ∙ ap (λ (l : List Policy). numbered_policies es ++ l) (drop-cons ps i first inside) in
    none p (all_at IsSound ps i first inside has.sound) (is ∙ chunk file many ps i first has within)
    (not_found es p (drop (suc i) ps) keyed (subst (λ (l : List Policy). IsDistinct nat_eq (policy_ids l)) split has.distinct))

-- the figures of a snapshot
abbrev pub front_for : Snapshot → Front
front_for s = record { position = s.position; upgrade = s.upgrade; policies = length s.book; ledger = s.ledger }

fits_signed : (most : ℕ) (balance : ℤ) → most ≤ 160000000000000000 → IsWithin most balance → FitsSigned w64 balance
fits_signed most balance few within = omega (arith, ints, few, within.0, within.1)

pub front_range : (s : Snapshot) → IsSoundSnapshot s → IsFrontInRange (front_for s)
front_range s sound =
    let figures = sound in
    let most : 40000000000 * s.position ≤ 160000000000000000 = omega (arith, figures.position_in) in
    record {
      position_in = omega (arith, figures.position_in);
      upgrade_in = omega (arith, figures.position_in, figures.upgrade_in);
      policies_in = omega (arith, figures.position_in, figures.policies_in);
      cash_in = fits_signed (40000000000 * s.position) s.ledger.cash most figures.balances_in.0;
      premiums_in = fits_signed (40000000000 * s.position) s.ledger.premiums most figures.balances_in.1;
      incurred_in = fits_signed (40000000000 * s.position) s.ledger.incurred most figures.balances_in.2;
      payable_in = fits_signed (40000000000 * s.position) s.ledger.payable most figures.balances_in.3;
    }

-- a checkpoint's file has the figures and the policies of its snapshot
pub record HasParts (file : List ℕ) (s : Snapshot) : Type 0 where
  pub front : HasFront file (front_for s)
  pub policies : HasPolicies file (length s.book) s.book

pub checkpoint_parts : (file : List ℕ) (s : Snapshot) → CheckpointBytes file s → HasParts file s
checkpoint_parts file s is =
    let n : ℕ = 48 * length s.book in
    let front : List ℕ = front_of (front_for s) in
    let flat : List ℕ = flat_map policy_bytes s.book in
    let behind : List ℕ = drop 1 file in
    let size : length (front ++ flat) ≡ 63 + n = omega (arith, length-append front flat, length-front (front_for s), length-policies s.book) in
    let all : take (63 + n) behind ≡ front ++ flat = ap (λ k. take k behind) (sym size) ∙ is.spelled in
    let first : take 63 behind ≡ front = sym (take-take 63 (63 + n) behind (omega arith)) ∙ ap (λ (l : List ℕ). take 63 l) all ∙ take_at front flat 63 (length-front (front_for s)) in
    let second : take n (drop 63 behind) ≡ flat = sym (drop-take 63 n behind) ∙ ap (λ (l : List ℕ). drop 63 l) all ∙ drop_at front flat 63 (length-front (front_for s)) in
    let cut : min (63 + n) (length behind) ≡ 63 + n = sym (length-take (63 + n) behind) ∙ ap (λ (l : List ℕ). length l) all ∙ size in
    record {
      front = record {
        spelled = ap (λ (l : List ℕ). take 64 l) (gate_first file is.opened) ∙ ap (λ (l : List ℕ). 1 ∷ l) first;
        long = omega (arith, cut, length-drop 1 file);
      };
      policies = record {
        counted = refl;
        spelled = ap (λ (l : List ℕ). take n l) (sym (drop-drop 63 1 file)) ∙ second;
        sound = is.sound.sound;
        distinct = is.sound.distinct;
      };
    }

-- and a file that has both is a checkpoint
pub checkpoint_made : (file : List ℕ) (s : Snapshot) → HasFront file (front_for s) → HasPolicies file (length s.book) s.book → IsSoundSnapshot s → CheckpointBytes file s
checkpoint_made file s has policies sound =
    let n : ℕ = 48 * length s.book in
    let front : List ℕ = front_of (front_for s) in
    let flat : List ℕ = flat_map policy_bytes s.book in
    let behind : List ℕ = drop 1 file in
    let size : length (front ++ flat) ≡ 63 + n = omega (arith, length-append front flat, length-front (front_for s), length-policies s.book) in
    let first : take 63 behind ≡ front = sym (drop-take 1 63 file) ∙ ap (λ (l : List ℕ). drop 1 l) has.spelled in
    let second : take n (drop 63 behind) ≡ flat = ap (λ (l : List ℕ). take n l) (drop-drop 63 1 file) ∙ policies.spelled in
    record {
      opened = sym (get_or-take 64 file 0 0 (omega arith)) ∙ ap (λ (l : List ℕ). get_or l 0 0) has.spelled;
      spelled = ap (λ k. take k behind) size ∙ parts 63 n behind ∙ (λ i. first i ++ second i);
      sound = sound;
    }

-- the books that stand behind fitting figures are sound
pub sound_stored : (f : Front) (books : NumberedBooks) → DoFit f → books.position ≡ f.position → books.upgrade ≡ f.upgrade → books.ledger ≡ f.ledger
    → length (numbered_policies books.policies.entries) ≡ f.policies → AreKeyed books.policies.entries → AllByRecursion IsSound (numbered_policies books.policies.entries)
    → IsDistinct nat_eq (keys_of books.policies.entries) → AreSoundBooks books
sound_stored f books fit position upgrade ledger counted keyed sound distinct = record {
  keyed = keyed;
  sound = record {
    position_in = omega (arith, position, fit.position_in);
    upgrade_in = omega (arith, position, upgrade, fit.upgrade_in);
    policies_in = omega (arith, position, counted, fit.policies_in);
    balances_in = subst (λ n. AreWithin (40000000000 * n) (balances books.ledger)) (sym position) (subst (λ l. AreWithin (40000000000 * f.position) (balances l)) (sym ledger) fit.balances_in);
    sound = sound;
    distinct = subst (IsDistinct nat_eq) (keyed_ids books.policies.entries keyed) distinct;
  };
}

pub keyed_more : (es : Entries) (p : Policy) → AreKeyed es → AreKeyed (es ++ (p.id, p) ∷ [])
keyed_more [] p keyed = (refl, tt)
keyed_more (e ∷ es) p keyed = (keyed.0, keyed_more es p keyed.1)

pub sound_push : (es : Entries) (p : Policy) → AllByRecursion IsSound (numbered_policies es) → IsSound p → AllByRecursion IsSound (numbered_policies (es ++ (p.id, p) ∷ []))
sound_push [] p sound here = (here, tt)
sound_push (e ∷ es) p sound here = (sound.0, sound_push es p sound.1 here)

pub policies_push : (es : Entries) (p : Policy) → numbered_policies (es ++ (p.id, p) ∷ []) ≡ numbered_policies es ++ p ∷ []
policies_push es p = map-append (λ (e : ℕ × Policy). e.1) es ((p.id, p) ∷ [])

-- what is stored
pub stored_books : (file : List ℕ) (count : ℕ) (f : Front) (books : NumberedBooks) → HasFront file f → HasBooks file f books → AreSoundBooks books → IsStored file count (Some books)
stored_books file count f books front has sound =
    let s : Snapshot = as_snapshot books in
    let counted : length s.book ≡ f.policies = has.policies.counted in
    let same : f ≡ front_for s = λ i. record { position = sym has.position i; upgrade = sym has.upgrade i; policies = sym counted i; ledger = sym has.ledger i } in
    checkpoint_made file s (subst (HasFront file) same front) (subst (λ n. HasPolicies file n s.book) (sym counted) has.policies) sound.sound

pub none_stored : (file : List ℕ) (count : ℕ) → IsFrontOn file None → IsStored file count None
none_stored file count none = λ s is le. let parts = checkpoint_parts file s is in none (front_for s) (front_range s is.sound) parts.front

pub other_figures : (file : List ℕ) (count : ℕ) (f : Front) → ((other : Front) → IsFrontInRange other → HasFront file other → other ≡ f)
    → (f.position ≤ count → DoFit f → ⊥) → IsStored file count None
other_figures file count f only unfit = λ s is le.
    let parts = checkpoint_parts file s is in
    let same : front_for s ≡ f = only (front_for s) (front_range s is.sound) parts.front in
    let figures = is.sound in
    let fit : DoFit (front_for s) = record { position_in = figures.position_in; upgrade_in = figures.upgrade_in; policies_in = figures.policies_in; balances_in = figures.balances_in } in
    unfit (subst (λ (g : Front). g.position ≤ count) same le) (subst DoFit same fit)

pub no_policies : (file : List ℕ) (count : ℕ) (f : Front) → ((other : Front) → IsFrontInRange other → HasFront file other → other ≡ f)
    → ((policies : List Policy) → HasPolicies file f.policies policies → ⊥) → IsStored file count None
no_policies file count f only none = λ s is le.
    let parts = checkpoint_parts file s is in
    let same : front_for s ≡ f = only (front_for s) (front_range s is.sound) parts.front in
    none s.book (subst (λ (g : Front). HasPolicies file g.policies s.book) same parts.policies)

pub stored_all : (file : List ℕ) (count : ℕ) (f : Front) (r : Result (Option NumberedBooks) ReopenFault) → HasFront file f
    → ((other : Front) → IsFrontInRange other → HasFront file other → other ≡ f) → IfOk r (λ found. AreBooksBehind file f found)
    → IfOk r (λ found. IfSome found (λ books. AreSoundBooks books × (books.position ≡ f.position))) → IfOk r (λ found. IsStored file count found)
stored_all file count f (Ok (Some books)) front only behind sound = stored_books file count f books front behind sound.0
stored_all file count f (Ok None) front only behind sound = no_policies file count f only behind
stored_all file count f (Err fault) front only behind sound = tt

-- what the first 64 bytes show of the figures
module _ (file bytes : List ℕ) (size : ℕ) (found : Option Front) (long : size ≡ length file) (read : bytes ≡ take 64 file)
    (exact : (f : Front) → IsFrontInRange f → bytes ≡ 1 ∷ front_of f → found ≡ Some f) where
  pub no_front : found ≡ None → IsFrontOn file None
  no_front none = λ f range has. let some : found ≡ Some f = exact f range (read ∙ has.spelled) in cc

  same_front : (g f : Front) → found ≡ Some g → IsFrontInRange f → HasFront file f → f ≡ g
  same_front g f is range has = let some : Some f ≡ Some g = sym (exact f range (read ∙ has.spelled)) ∙ is in cc

  pub no_room : (g : Front) → found ≡ Some g → 64 ≤ size → (size - 64) / 48 < g.policies → IsFrontOn file None
  no_room g is enough many = λ f range has.
      let same : f.policies ≡ g.policies = ap (λ (h : Front). h.policies) (same_front g f is range has) in
      omega (arith, has.long, long, enough, many, same)

  pub front_there : (g : Front) → found ≡ Some g → bytes ≡ 1 ∷ front_of g → 64 ≤ size → g.policies ≤ (size - 64) / 48 → IsFrontOn file (Some g)
  front_there g is spelled enough few =
      (record { spelled = sym read ∙ spelled; long = omega (arith, long, enough, few) }, λ other range has. same_front g other is range has)

pub short_file : (file : List ℕ) (size : ℕ) → size ≡ length file → size < 64 → IsFrontOn file None
short_file file size is short = λ f range has. omega (arith, has.long, is, short)

-- the books with one policy more
next_begun : (f : Front) (index : ℕ) (bytes : List ℕ) (old new : NumberedBooks) (added : Bool) → AreBegun f index old → WasAdded bytes old new added → BegunNext f (index + 1) new added
next_begun f index bytes old new false begun was = tt
next_begun f index bytes old new true begun was =
    let es : Entries = old.policies.entries in
    let policies : numbered_policies new.policies.entries ≡ numbered_policies es ++ was.policy ∷ [] = ap numbered_policies was.entries ∙ policies_push es was.policy in
    record {
      position = was.position ∙ begun.position;
      upgrade = was.upgrade ∙ begun.upgrade;
      ledger = was.ledger ∙ begun.ledger;
      counted = omega (arith, ap (λ (l : List Policy). length l) policies, length-append (numbered_policies es) (was.policy ∷ []), begun.counted);
      keyed = subst AreKeyed (sym was.entries) (keyed_more es was.policy begun.keyed);
      sound = subst (λ (l : Entries). AllByRecursion IsSound (numbered_policies l)) (sym was.entries) (sound_push es was.policy begun.sound was.sound);
      distinct = was.distinct;
    }

next_up_to : (file : List ℕ) (f : Front) (index : ℕ) (bytes : List ℕ) (old new : NumberedBooks) (added : Bool) → index < f.policies → AreBegun f index old
    → AreUpTo file f index old → bytes ≡ take 48 (drop (64 + 48 * index) file) → WasAdded bytes old new added → UpToNext file f (index + 1) new added
next_up_to file f index bytes old new false within begun up is was = λ ps has.
    none_more file f.policies ps old.policies.entries index bytes has within begun.keyed (up.only ps has) is was
next_up_to file f index bytes old new true within begun up is was =
    let es : Entries = old.policies.entries in
    let policies : numbered_policies new.policies.entries ≡ numbered_policies es ++ was.policy ∷ [] = ap numbered_policies was.entries ∙ policies_push es was.policy in
    let here : take 48 (drop (64 + 48 * index) file) ≡ policy_bytes was.policy = sym is ∙ was.spelled in
    record {
      spelled = spelled_more file (numbered_policies es) was.policy index up.spelled here ∙ ap (λ (l : List Policy). flat_map policy_bytes l) (sym policies);
      only = λ ps has. only_more file f.policies ps (numbered_policies es) was.policy index has within (up.only ps has) was.sound here ∙ sym policies;
    }

-- the bytes of one policy among those of some
part_of_piece : (file all one : List ℕ) (first many index : ℕ) → index < many → AreBytesOf file first many all → one ≡ take 48 (drop (48 * index) all)
    → one ≡ take 48 (drop (64 + 48 * (first + index)) file)
part_of_piece file all one first many index within are is =
    let rest : List ℕ = drop (64 + 48 * first) file in
    let place : 64 + 48 * first + 48 * index ≡ 64 + 48 * (first + index) = omega arith in
    is ∙ same_part (48 * many) (48 * index) 48 rest all are (omega (arith, within))
    ∙ ap (λ (l : List ℕ). take 48 l) (drop-drop (48 * index) (64 + 48 * first) file)
    ∙ ap (λ n. take 48 (drop n file)) place

-- a policy of a new number goes last
pub added_last : (bytes : List ℕ) (old new : NumberedBooks) (policy : Policy) → IsSound policy → bytes ≡ policy_bytes policy
    → is_some (lookup (nat_eq policy.id) old.policies.entries) ≡ false → new.policies.entries ≡ insert_entry nat_eq old.policies.entries policy.id policy
    → IsDistinct nat_eq (keys_of new.policies.entries) → new.position ≡ old.position → new.upgrade ≡ old.upgrade → new.ledger ≡ old.ledger → IsAddedTo bytes old new
added_last bytes old new policy sound is none entries distinct position upgrade ledger = record {
  policy = policy;
  sound = sound;
  spelled = is;
  entries = entries ∙ insert_entry-new nat_eq old.policies policy.id policy (none_there (lookup (nat_eq policy.id) old.policies.entries) none);
  distinct = distinct;
  position = position;
  upgrade = upgrade;
  ledger = ledger;
}
  where
    none_there : (o : Option Policy) → is_some o ≡ false → o ≡ None
    none_there None is = refl
    none_there (Some p) is = absurd (true≢false is)

-- the answer of an addition
pub up_to_one_more : (file all one : List ℕ) (f : Front) (first many index : ℕ) (old new : NumberedBooks) (r : Result Bool ReopenFault) → index < many
    → first + many ≤ f.policies → AreBytesOf file first many all → one ≡ take 48 (drop (48 * index) all) → AreBegun f (first + index) old
    → AreUpTo file f (first + index) old → IfOk r (λ added. WasAdded one old new added) → IfOk r (λ added. UpToNext file f (first + (index + 1)) new added)
up_to_one_more file all one f first many index old new (Ok added) within room are is begun up was =
    let next : first + index + 1 ≡ first + (index + 1) = omega arith in
    subst (λ n. UpToNext file f n new added) next
    (next_up_to file f (first + index) one old new added (omega (arith, within, room)) begun up (part_of_piece file all one first many index within are is) was)
up_to_one_more file all one f first many index old new (Err fault) within room are is begun up was = tt

pub begun_one_more : (one : List ℕ) (f : Front) (first index : ℕ) (old new : NumberedBooks) (r : Result Bool ReopenFault) → AreBegun f (first + index) old
    → IfOk r (λ added. WasAdded one old new added) → IfOk r (λ added. BegunNext f (first + (index + 1)) new added)
begun_one_more one f first index old new (Ok added) begun was =
    let next : first + index + 1 ≡ first + (index + 1) = omega arith in
    subst (λ n. BegunNext f n new added) next (next_begun f (first + index) one old new added begun was)
begun_one_more one f first index old new (Err fault) begun was = tt

-- all policies are in the books
pub all_behind : (file : List ℕ) (f : Front) (books : NumberedBooks) → AreBegun f f.policies books → AreUpTo file f f.policies books → HasBooks file f books
all_behind file f books begun up = record {
  position = begun.position;
  upgrade = begun.upgrade;
  ledger = begun.ledger;
  policies = record {
    counted = begun.counted;
    spelled = up.spelled;
    sound = begun.sound;
    distinct = subst (IsDistinct nat_eq) (keyed_ids books.policies.entries begun.keyed) begun.distinct;
  };
}

pub begun_sound : (f : Front) (books : NumberedBooks) → DoFit f → AreBegun f f.policies books → AreSoundBooks books
begun_sound f books fit begun = sound_stored f books fit begun.position begun.upgrade begun.ledger begun.counted begun.keyed begun.sound begun.distinct
