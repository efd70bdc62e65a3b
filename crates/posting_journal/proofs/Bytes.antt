-- Parts of two files that agree.
use Rattle.posting_journal.proofs.Names.{◌≡◌, ℕ, ◌+◌, ◌<◌, ◌≤◌, max, List, ◌++◌, length, take, drop, get_or, sym, ◌∙◌, ap, subst, arith, append_assoc, length-append, length-drop, get_or-take, get_or-drop, take-take, drop-take, take_at, drop_at, drop-drop, length-take-le, Holds, Torn}
use Rattle.std.proofs.Math.Seq.{drop-append-add}

pub same_shorter : (few many : ℕ) (old new : List ℕ) → take many new ≡ take many old → few ≤ many → take few new ≡ take few old
same_shorter few many old new same le = sym (take-take few many new le) ∙ ap (λ (l : List ℕ). take few l) same ∙ take-take few many old le

pub same_byte : (many k : ℕ) (old new : List ℕ) → take many new ≡ take many old → k < many → get_or new k 0 ≡ get_or old k 0
same_byte many k old new same lt = sym (get_or-take many new k 0 lt) ∙ ap (λ (l : List ℕ). get_or l k 0) same ∙ get_or-take many old k 0 lt

pub same_part : (many k width : ℕ) (old new : List ℕ) → take many new ≡ take many old → k + width ≤ many → take width (drop k new) ≡ take width (drop k old)
same_part many k width old new same le =
    sym (drop-take k width new) ∙ ap (λ (l : List ℕ). drop k l) (same_shorter (k + width) many old new same le) ∙ drop-take k width old

pub same_behind : (at k : ℕ) (old new : List ℕ) → drop at new ≡ drop at old → get_or new (at + k) 0 ≡ get_or old (at + k) 0
same_behind at k old new same = sym (get_or-drop at new k 0) ∙ ap (λ (l : List ℕ). get_or l k 0) same ∙ get_or-drop at old k 0

-- what a file reads after a write
pub record Written (old : List ℕ) (at : ℕ) (bytes new : List ℕ) : Type 0 where
  pub before : take at new ≡ take at old
  pub behind : drop at new ≡ bytes ++ drop (at + length bytes) old
  pub size : length new ≡ max (length old) (at + length bytes)

pub written : (old : List ℕ) (at : ℕ) (bytes new : List ℕ) → at ≤ length old → Holds old at bytes new → Written old at bytes new
written old at bytes new within holds =
    let rest = drop (at + length bytes) old in
    let front : length (take at old) ≡ at = length-take-le at old within in
    let whole : new ≡ take at old ++ (bytes ++ rest) = holds ∙ append_assoc (take at old) bytes rest in
    record {
      before = ap (λ (l : List ℕ). take at l) whole ∙ take_at (take at old) (bytes ++ rest) at front;
      behind = ap (λ (l : List ℕ). drop at l) whole ∙ drop_at (take at old) (bytes ++ rest) at front;
      size = omega (arith, ap (λ (l : List ℕ). length l) whole, length-append (take at old) (bytes ++ rest), length-append bytes rest, length-drop (at + length bytes) old);
    }

-- a write that was done whole is one of those that a crash may leave
pub written_torn : (old : List ℕ) (at : ℕ) (bytes new : List ℕ) → at ≤ length old → Holds old at bytes new → Torn at (length bytes) old new
written_torn old at bytes new within holds =
    let w = written old at bytes new within holds in
    let rest = drop (at + length bytes) old in
    let past : drop (length bytes + 0) (bytes ++ rest) ≡ drop 0 rest = drop-append-add bytes rest 0 in
    let place : length bytes + 0 ≡ length bytes = omega arith in
    record {
      before = w.before;
      after = sym (drop-drop (length bytes) at new) ∙ ap (λ (l : List ℕ). drop (length bytes) l) w.behind ∙ subst (λ n. drop n (bytes ++ rest) ≡ rest) place past;
      no_shorter = omega (arith, w.size);
      no_longer = omega (arith, w.size);
    }
