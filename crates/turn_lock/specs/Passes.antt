-- What contracts see of a pass, and what each call does to it
use Rattle.std.specs.Prelude.{◌≡◌, ◌≢◌, ℕ, ◌+◌, ◌-◌, ◌/◌, ◌^◌, ◌<◌, nat_eq, List, [], ◌∷◌, ◌++◌, length, map, Option, Some}
use Rattle.turn_lock.specs.Names.{AllByRecursion, Contains, IsDistinct, Entry}
pub use Rattle.atomic_table.specs.Seated.{TableId}
use Rattle.turn_lock.specs.History.{entries_of, StartsWith, longer}

-- all turns that there are to take, and all shares, of a turnstile
abbrev pub all_turns : ℕ
all_turns = 2 ^ 62

abbrev pub all_shares : ℕ
all_shares = 2 ^ 32

-- a caller's number, and the entries that it made
abbrev pub Page : Type 0
Page = ℕ × List Entry

-- a pass: which turnstile it is of, and what that was opened on; its caller's number, the turns left to it and its shares;
-- the entries that it has seen and those that it made; and a page for each pass that was taken back into it
pub record Holding (Opening : Type 0) : Type 0 where
  pub turnstile : TableId
  pub opening : Option Opening
  pub caller : ℕ
  pub left : ℕ
  pub shares : ℕ
  pub seen : List Entry
  pub made : List Entry
  pub ended : List Page

module _ {Opening : Type 0} where
  -- the pages of the pass's own caller and of the ended ones
  abbrev pub pages : Holding Opening → List Page
  pages pass = (pass.caller, pass.made) ∷ pass.ended

  -- the numbers of these callers
  abbrev pub callers : Holding Opening → List ℕ
  callers pass = map (λ page. page.0) (pages pass)

  -- what it has seen is legal; the entries in it of its caller, and of each ended one, are exactly those of that
  -- page; and these callers all differ
  pub record PassFacts (legal : Opening → List Entry → Type 0) (pass : Holding Opening) : Type 0 where
    pub lawful : (opening : Opening) × (pass.opening ≡ Some opening) × legal opening pass.seen
    pub paged : AllByRecursion (λ page. entries_of pass.seen page.0 ≡ page.1) (pages pass)
    pub apart : IsDistinct nat_eq (callers pass)

  -- the first pass of a turnstile, whose value was opened on this
  pub record IsFirst (opening : Opening) (pass : Holding Opening) : Type 0 where
    pub opened : pass.opening ≡ Some opening
    pub caller : pass.caller ≡ 0
    pub left : pass.left ≡ all_turns
    pub shares : pass.shares ≡ all_shares
    pub seen : pass.seen ≡ []
    pub made : pass.made ≡ []
    pub ended : pass.ended ≡ []

  -- A pass gives a part of what it has to a new pass. One unit is spent. The new pass gets half of the rest and half
  -- of the shares, rounded down, and a new number. It has seen what the old pass has, and has made nothing. The lists
  -- of the old pass stay.
  pub record Enters (old kept given : Holding Opening) : Type 0 where
    pub kept_is : kept ≡ record old { left = old.left - 1 - (old.left - 1) / 2; shares = old.shares - old.shares / 2 }
    pub given_is : given ≡ record old { caller = given.caller; left = (old.left - 1) / 2; shares = old.shares / 2; made = []; ended = [] }
    pub new_number : AllByRecursion (λ number. number ≢ given.caller) (callers old)

  -- A pass takes another one back: the turns that it has left, its shares, and the pages that it vouches for. Then it
  -- has seen the longer of the two lists, of which both are beginnings.
  pub record LeavesLock (gone old new : Holding Opening) : Type 0 where
    pub new_is : new ≡ record old {
      left = old.left + gone.left;
      shares = old.shares + gone.shares;
      seen = longer old.seen gone.seen;
      ended = old.ended ++ pages gone;
    }
    pub begins_old : StartsWith new.seen old.seen
    pub begins_gone : StartsWith new.seen gone.seen

  -- A turn: what the pass has seen now begins with what it had seen before, and ends, at this place, with this entry,
  -- which is its caller's. No entry in between is its caller's. The pass has made this one more entry, and has one
  -- turn less left.
  pub record TakesTurn (turn : ℕ) (entry : Entry) (old new : Holding Opening) : Type 0 where
    pub between : List Entry
    pub new_is : new ≡ record old { left = old.left - 1; seen = (old.seen ++ between) ++ entry ∷ []; made = old.made ++ entry ∷ [] }
    pub place : turn ≡ length (old.seen ++ between)
    pub caller : entry.caller ≡ old.caller
    pub others : entries_of between old.caller ≡ []

  -- The pass at the end has seen the whole history: each entry is its own or an ended caller's
  abbrev pub OwnsAll : Holding Opening → Type 0
  OwnsAll pass = AllByRecursion (λ entry. Contains (callers pass) entry.caller) pass.seen

-- what a call is lent: a value that stands for a history of fewer entries than there are turns, which begins with what its caller has seen,
-- and has of this caller just what it made; and what the call needs of its caller
pub record IsLent {T : Type 0} (stands : T → List Entry → Type 0) (needs : ℕ → List Entry → List Entry → Type 0) (value : T) (caller : ℕ) (history seen made : List Entry) : Type 0 where
  pub stood : stands value history
  pub short : length history < all_turns
  pub begins : StartsWith history seen
  pub own : entries_of history caller ≡ made
  pub need : needs caller seen made
