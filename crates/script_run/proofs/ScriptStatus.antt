-- What the exit status says of a script
use Rattle.script_run.proofs.Names.{◌≡◌, ℕ, ◌≤◌, ◌<◌, ◌⊎◌, List, [], ◌∷◌, ◌++◌, length, refl, sym, ◌∙◌, subst, inl, inr, Option, arith, IfSome, Rose, GivesMore, Lane, IsFirstScriptFault, Reads, Ending, BadScript, InputFault, NoMemory, GaveAll, Input, IsWholeInput, Stream, EndsUnread, most_script_bytes, IsReadAs, IsReadable, IsRefused, IsUnreadable}
use Rattle.std.proofs.lemmas.Bool.{cases_lt}
use Rattle.command_csv.proofs.Faults.{fault_excludes}
use Rattle.command_csv.proofs.Judging.{judged}
use Rattle.program_endings.specs.Status.{status_of}

-- what comes after the same prefix is the same
same_behind : (front xs ys : List ℕ) → front ++ xs ≡ front ++ ys → xs ≡ ys
same_behind [] xs ys same = same
same_behind (byte ∷ front) xs ys same = same_behind front xs ys (cc)

-- what an input gave up to its end is its whole
pub one_whole : (input : Input) (gave bytes : List ℕ) → GaveAll input gave → IsWholeInput input bytes → gave ≡ bytes
one_whole input gave bytes all (inl left) = sym (subst (λ (told : Option (List ℕ)). IfSome told (λ t. t ≡ gave)) left all.left)
one_whole input gave bytes all (inr given) = same_behind input.given_before gave bytes (sym all.given ∙ given.0)

-- and it isn't more than it gave
too_many : (input : Input) (bytes : List ℕ) → GivesMore most_script_bytes input.given_before input.given_after
    → IfSome input.left_before (λ told. most_script_bytes < length told) → IsWholeInput input bytes → 16777216 < length bytes
too_many input bytes more told (inl left) = subst (λ (told : Option (List ℕ)). IfSome told (λ t. 16777216 < length t)) left told
too_many input bytes more told (inr given) =
    subst (λ (bs : List ℕ). 16777216 < length bs) (same_behind input.given_before more.0 bytes (sym more.1 ∙ given.0)) more.2

-- none that can be read is refused
not_refused : (input : Input) (bytes : List ℕ) (lanes : List Lane) (output : Stream) → IsWholeInput input bytes → length bytes ≤ 16777216
    → Reads bytes lanes → IsRefused input output → ⊥
not_refused input bytes lanes output whole short reads refused = elim refused [
  | inl long ↦ absurd (let many = too_many input bytes long.0 long.1 whole in omega (arith, many))
  | inr bad ↦
      let same = one_whole input bad.0 bytes bad.1 whole in
      let fault = bad.3 in
      fault_excludes bytes fault.0 fault.1.0 lanes (subst (λ (bs : List ℕ). IsFirstScriptFault bs fault.0 fault.1.0) same fault.1.1) reads
]

-- and none is read that can't be
never_read : {A : Type 0} (bytes : List ℕ) (lanes : List Lane) → IsReadAs bytes lanes → IsUnreadable bytes → A
never_read bytes lanes read unreadable = elim unreadable [
  | inl long ↦ absurd (omega (arith, long, read.0))
  | inr fault ↦ absurd (fault_excludes bytes fault.0 fault.1.0 lanes fault.1.1 read.1)
]

pub never_readable : {A : Type 0} (input : Input) (gave bytes : List ℕ) (lanes : List Lane) → GaveAll input gave → IsReadAs gave lanes
    → IsWholeInput input bytes → IsUnreadable bytes → A
never_readable input gave bytes lanes all read whole unreadable =
    never_read bytes lanes (subst (λ (bs : List ℕ). IsReadAs bs lanes) (one_whole input gave bytes all whole) read) unreadable

-- and neither is one of an input that gave too much
pub never_long : {A : Type 0} (input : Input) (gave : List ℕ) (lanes : List Lane) → GaveAll input gave → IsReadAs gave lanes
    → GivesMore 16777216 input.given_before input.given_after → A
never_long input gave lanes all read more =
    let same = same_behind input.given_before more.0 gave (sym more.1 ∙ all.given) in
    let long : 16777216 < length gave = subst (λ (bs : List ℕ). 16777216 < length bs) same more.2 in
    absurd (omega (arith, long, read.0))

-- every script is one or the other
pub read_or_refused : (bytes : List ℕ) → IsReadable bytes ⊎ IsUnreadable bytes
read_or_refused bytes = elim (cases_lt 16777216 (length bytes)) [
  | inl long ↦ inr (inl long)
  | inr short ↦ elim (judged bytes) [
    | inl read ↦ inl (read.0, (short, read.1))
    | inr fault ↦ inr (inr fault)
  ]
]

pub not_both : (bytes : List ℕ) → IsReadable bytes → IsUnreadable bytes → ⊥
not_both bytes readable unreadable = never_read bytes readable.0 readable.1 unreadable

-- a script that can be read isn't refused if the input doesn't fail
pub unread_readable : (input : Input) (output : Stream) (ending : Ending) (bytes : List ℕ) (lanes : List Lane)
    → EndsUnread input output ending → IsWholeInput input bytes → length bytes ≤ 16777216 → Reads bytes lanes
    → (Rose input.faults_before input.faults_after → ⊥) → status_of ending ≡ 9
unread_readable input output (NoMemory lack) bytes lanes ends whole short reads held = refl
unread_readable input output InputFault bytes lanes ends whole short reads held = absurd (held ends.0)
unread_readable input output BadScript bytes lanes ends whole short reads held = absurd (not_refused input bytes lanes output whole short reads ends)
unread_readable input output _ bytes lanes ends whole short reads held = absurd ends

-- a script that can be read is read
pub unread_refused : (input : Input) (output : Stream) (ending : Ending) → EndsUnread input output ending
    → (Rose input.faults_before input.faults_after → ⊥) → (status_of ending ≡ 3) ⊎ (status_of ending ≡ 9)
unread_refused input output BadScript ends held = inl refl
unread_refused input output (NoMemory lack) ends held = inr refl
unread_refused input output InputFault ends held = absurd (held ends.0)
unread_refused input output _ ends held = absurd ends
