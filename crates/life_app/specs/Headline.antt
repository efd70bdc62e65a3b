-- What is promised of a script's run, in short: its transcript is one legal history, in which each lane's lines occur
-- once, in order; its valuations enclose the exact reserves; and what a crash leaves. These are parameters: which
-- file opens to which commands, where a file must open to at most one list of commands, and an empty file to none;
-- which files make which basis under a name, where they must make at most one; the texts, where the line of a posting
-- must state its reply, and a valuation its rows; and the exact reserves, of which there must be at most one.
use Rattle.std.specs.Prelude.{◌≡◌, ◌⊎◌, ℕ, ℤ, ◌≤◌, ◌<ℤ◌, All, List, [], ◌++◌, nat_eq, true, false}
use Rattle.life_app.specs.Names.{AllByRecursion, AllZip, Contains, IsDistinct, Dated, IsPicked, Files, TakenPiece, Ghosts, Command, Policy, Entry, Lane, IsLegal, accepted_of, opened_on, Row, Bounds, Word, Fraction, AnsweredLine, AreLinesOf, Auditor, reports_of, IsFrontThere, IsThere, status_of, Input, Shelving, Stream, Ending, EndsUnread, asks_for_values, IsInsured, IsYear, Worth, AreSafeWhenShown, WroteAsEnded, IsToldLine, Wording}
use Rattle.plan_benefits.specs.declared.fault.NotValued.TheVariants.{NoBasis}
use Rattle.present_value.specs.Reserve.{Encloses}
use Rattle.program_endings.specs.Refusals.{EndsNoOffice}
use Rattle.program_endings.specs.WithoutBasis.{EndsNoBasis}
use Rattle.life_app.specs.Given.{Reserves}

-- by an entry of the basis: the bounds enclose the exact reserve of the amount at the policy's year and differ by at
-- most two cents, or the word says why there is none
abbrev pub IsWorthBy : Reserves → Policy → Dated → ℤ → ℕ → Worth → Type 0
IsWorthBy reserves policy entry on t (Bounds lo hi) =
    (years : ℕ) × ((reserve : Fraction) × reserves.Is policy entry years t reserve
    × IsYear policy.issued on years t × Encloses lo hi policy.amount reserve)
IsWorthBy reserves policy entry on t (Word why) = reserves.HasNone policy entry why
IsWorthBy _ _ _ _ _ _ = ⊥

-- The row of a policy on a day. A policy that is in force or paid up, and issued by then, is worth what the last
-- entry says that had begun on its day of issue; any other policy is worth nothing.
pub record IsEnclosingRow (reserves : Reserves) (basis : List Dated) (on : ℤ) (policy : Policy) (row : Row) : Type 0 where
  pub id : row.id ≡ policy.id
  pub status : row.status ≡ policy.status
  pub insured : IsInsured policy on → (index : ℕ) → (entry : Dated) → IsPicked basis policy.issued index entry
      → IsWorthBy reserves policy entry on row.t row.worth
  pub unnamed : IsInsured policy on → All (λ (entry : Dated). policy.issued <ℤ entry.from_day) basis → row.worth ≡ Word NoBasis
  pub uninsured : (IsInsured policy on → ⊥) → row.worth ≡ Bounds 0 0

-- The run of these lanes, by a basis, with these watchers, and with a disk before and after it.
pub record IsPromised {D : Type 0} (g : Ghosts D) (Opens : List ℕ → List Command → Type 0) (wording : Wording) (reserves : Reserves)
    (old new : D) (lanes : List Lane) (basis : List Dated) (auditors : List Auditor) (output : Stream) (status : ℕ) : Type 0 where
  -- one history, legal from the commands of the file on
  pub commands : List Command
  pub history : List Entry
  pub opened : g.honest new → Opens (g.reads old) commands
  pub legal : IsLegal (opened_on commands (g.faults old)) history
  -- in which each lane's lines occur once, in order, by a caller of its own
  pub callers : List ℕ
  pub dry : List ℕ
  pub lines : List AnsweredLine
  pub distinct : IsDistinct nat_eq callers
  pub theirs : AllByRecursion (λ entry. Contains callers entry.caller) history
  pub answered : AreLinesOf lines history lanes callers dry
  -- The transcript is their texts, and after them the watchers' reports of what was accepted. The status says how
  -- much of it was written, and why no more.
  pub texts : List (List ℕ)
  pub told : AllZip (IsToldLine wording (IsEnclosingRow reserves basis) commands history dry) lines texts
  pub ending : Ending
  pub exits : status ≡ status_of ending
  pub wrote : WroteAsEnded g old new history dry texts (wording.reports (reports_of auditors (accepted_of history))) output ending
  -- and what was shown of the lines was safe by then
  pub shown : g.honest new → (run : List TakenPiece) × (output.pieces_after ≡ run ++ output.pieces_before)
      × AreSafeWhenShown g Opens new commands history lines texts run
  -- A crash after the run leaves all that was accepted. A crash within it leaves what a crash before it left, or a
  -- prefix of these commands; and once the opening has synced the file as it was, a prefix of these commands.
  pub now : g.honest new → (image : List ℕ) → g.may_leave new image
      → IsThere Opens commands history (accepted_of history) image
  pub since : g.honest new → (image : List ℕ) → g.left_since new (g.clock old) image
      → g.may_leave old image ⊎ IsFrontThere Opens commands history image
  pub synced : g.honest new → (mid : D) × (g.clock old ≤ g.clock mid) × (g.clock mid ≤ g.clock new)
      × ((image : List ℕ) → g.may_leave mid image → image ≡ g.reads old)
      × ((image : List ℕ) → g.left_since new (g.clock mid) image → IsFrontThere Opens commands history image)

-- A run that failed and added no command. A line was written in place of a transcript, or the output failed in it:
-- there is no script, or no basis, or no office. And a crash leaves what it might have left before, or what opens to
-- the commands to which the file did.
pub record IsUnrun {D : Type 0} (g : Ghosts D) (Opens : List ℕ → List Command → Type 0) (old new : D) (name : List ℕ)
    (input : Input) (output : Stream) (shelf : Shelving) (status : ℕ) : Type 0 where
  pub ending : Ending
  pub exits : status ≡ status_of ending
  pub says : EndsUnread input output ending ⊎ EndsNoBasis name shelf output ending ⊎ EndsNoOffice g old new output ending
  pub since : g.honest new → (image : List ℕ) → g.left_since new (g.clock old) image → g.may_leave old image
      ⊎ ((commands : List Command) × Opens (g.reads old) commands × Opens image commands)

-- the basis that a run of these lanes is given: if a line asks for values, files that agree with the shelf's answers
-- make it under this name; else it has no rows
abbrev pub IsGivenBasis : (Files → List ℕ → List Dated → Type 0) → List Lane → List ℕ → Shelving → List Dated → Type 0
IsGivenBasis Makes lanes name shelf basis =
    ((asks_for_values lanes ≡ false) × (basis ≡ []))
    ⊎ ((asks_for_values lanes ≡ true) × ((files : Files) × shelf.Agrees files × Makes files name basis))
