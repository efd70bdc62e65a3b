-- The lock's rule: what holds of the words, the slot and all seats between any two steps
use Rattle.std.specs.Prelude.{◌≡◌, ◌≢◌, ℕ, ◌+◌, ◌<◌, ◌≤◌, nat_eq, List, [], ◌∷◌, length, Option, Some, None}
use Rattle.turn_lock.specs.Names.{AllByRecursion, Contains, IsDistinct, State, Entry}
use mathlib.Core.Option as maybe
use mathlib.Core.Option.{some, none}
use lib.ListN.{get_elem?}
use Rattle.turn_lock.specs.History.{entries_of, StartsWith}
use Rattle.turn_lock.specs.Passes.{Page, all_turns, all_shares}
use Rattle.turn_lock.specs.declared.seats.Kept.{Kept}
use Rattle.turn_lock.specs.declared.seats.View.{View}
use Rattle.turn_lock.specs.declared.seats.Stage.{Stage}
use Rattle.turn_lock.specs.declared.seats.Stage.TheVariants.{Inside}
use Rattle.turn_lock.specs.inside.Seats.{IsLive, units, shares, pages, numbers, total}

module _ {O : Type 0} (legal : O → List Entry → Type 0) (opening : O) (history : List Entry) where
  -- a page of a seat: its number was given and is this seat's, and it has all the entries of that number
  pub record PageStands (names : ℕ) (owner : ℕ → ℕ) (seat : ℕ) (seen : List Entry) (page : Page) : Type 0 where
    pub given : page.0 < names
    pub owned : owner page.0 ≡ seat
    pub whole : entries_of history page.0 ≡ page.1
    pub shown : entries_of seen page.0 ≡ page.1

  -- a seat that is inside holds the lock, which is taken, and has seen the whole history
  abbrev pub StageStands : ℕ → ℕ → ℕ → List Entry → Stage → Type 0
  StageStands lock holder seat seen Inside = (lock ≡ 1) × (holder ≡ seat) × (seen ≡ history)
  StageStands lock holder seat seen _ = Unit {0}

  -- what a live seat knows is so
  pub record SeatStands (names lock : ℕ) (owner : ℕ → ℕ) (holder seat : ℕ) (v : View O) : Type 0 where
    pub opened : v.opened ≡ Some opening
    pub seen : StartsWith history v.seen
    pub also : StartsWith history v.also
    pub lawful : legal opening v.seen
    pub sharing : 1 ≤ v.shares
    pub paged : AllByRecursion (PageStands names owner seat v.seen) (pages v)
    pub apart : IsDistinct nat_eq (numbers (pages v))
    pub counted : v.names ≤ names
    pub below : AllByRecursion (λ page. page.0 < v.names) (pages v)
    pub staged : StageStands lock holder seat v.seen v.stage

module _ {T O : Type 0} (opens : T → O) (legal : O → List Entry → Type 0) (stands : T → List Entry → Type 0) (opening : O) where
  -- when the slot is out, it is with the seat that holds the lock; when it is home, the lock isn't taken, and the
  -- value stands for the history
  abbrev pub SlotStands : List Entry → ℕ → ℕ → List (View O) → maybe.Option (Option (Kept T)) → Type 0
  SlotStands history lock holder views maybe.Option.none = (v : View O) × (get_elem? views holder ≡ some v) × (v.stage ≡ Inside)
  SlotStands history lock holder views (maybe.Option.some None) = ⊥
  SlotStands history lock holder views (maybe.Option.some (Some kept)) = (lock ≢ 1) × stands kept.value history × (opens kept.value ≡ opening) × (kept.turns ≡ length history)

  pub record LockRule (s : State (Option (Kept T)) (View O)) : Type 0 where
    pub history : List Entry
    -- 1 where the lock is taken
    pub lock : ℕ
    pub names : ℕ
    -- the seat in whose pages a number stands
    pub owner : ℕ → ℕ
    -- the seat that is inside, where one is
    pub holder : ℕ
    pub slot : maybe.Option (Option (Kept T))
    pub words_are : s.words ≡ lock ∷ names ∷ []
    pub slot_is : s.homes ≡ slot ∷ []
    pub begun : 1 ≤ names
    pub lies : SlotStands history lock holder s.views slot
    pub theirs : AllByRecursion (λ entry. entry.caller < names) history
    pub each_seat : (seat : ℕ) (v : View O) → get_elem? s.views seat ≡ some v → IsLive v.stage → SeatStands legal opening history names lock owner holder seat v
    pub one_saw_all : (seat : ℕ) × (v : View O) × (get_elem? s.views seat ≡ some v) × IsLive v.stage × (v.seen ≡ history)
    pub each_name : (n : ℕ) → n < names → (v : View O) × (get_elem? s.views (owner n) ≡ some v) × Contains (numbers (pages v)) n
    pub units_left : length history + (names + total units s.views) ≡ all_turns + 1
    pub shares_out : total shares s.views ≡ all_shares
