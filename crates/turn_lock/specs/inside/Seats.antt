-- What a seat of the lock knows, read out of its view
use Rattle.std.specs.Prelude.{◌≡◌, ℕ, ◌+◌, ◌-◌, ◌/◌, ◌<◌, ◌≤◌, max, nat_eq, nat_lt, if◌then◌else◌, List, [], ◌∷◌, ◌++◌, length, map, Some, None}
use Rattle.turn_lock.specs.Names.{AllByRecursion, IsDistinct, Entry}
use Rattle.turn_lock.specs.History.{entries_of, longer}
use Rattle.turn_lock.specs.Passes.{Page, all_turns, all_shares}
use Rattle.turn_lock.specs.declared.seats.View.{View}
use Rattle.turn_lock.specs.declared.seats.Stage.{Stage}
use Rattle.turn_lock.specs.declared.seats.Stage.TheVariants.{Spent, Unnamed, Idle, Inside}

-- every seat but one that was taken back
abbrev pub IsLive : Stage → Type 0
IsLive Spent = ⊥
IsLive _ = Unit {0}

-- the seat has a number
abbrev pub IsNamed : Stage → Type 0
IsNamed Spent = ⊥
IsNamed Unnamed = ⊥
IsNamed _ = Unit {0}

-- the allowance at this stage, with the unit that is put by for a number
abbrev pub units_at : Stage → ℕ → ℕ
units_at Spent left = 0
units_at Unnamed left = left + 1
units_at _ left = left

abbrev pub shares_at : Stage → ℕ → ℕ
shares_at Spent shares = 0
shares_at _ shares = shares

-- the pages at this stage: of a seat with a number its own, and those of the ended ones
abbrev pub pages_at : Stage → Page → List Page → List Page
pages_at Spent own ended = []
pages_at Unnamed own ended = []
pages_at _ own ended = own ∷ ended

abbrev pub numbers : List Page → List ℕ
numbers pages = map (λ page. page.0) pages

-- the shorter of two lists, or the second where they are as long
abbrev pub shorter : List Entry → List Entry → List Entry
shorter one other = if nat_lt (length one) (length other) then one else other

module _ {O : Type 0} where
  abbrev pub units : View O → ℕ
  units v = units_at v.stage v.left

  abbrev pub shares : View O → ℕ
  shares v = shares_at v.stage v.shares

  abbrev pub own : View O → Page
  own v = (v.number, v.made)

  abbrev pub pages : View O → List Page
  pages v = pages_at v.stage (own v) v.ended

  -- the sum of a number over all views
  abbrev pub total : (View O → ℕ) → List (View O) → ℕ
  total f [] = 0
  total f (v ∷ vs) = f v + total f vs

  abbrev pub first_view : O → View O
  first_view opening = record { stage = Idle; number = 0; names = 1; left = all_turns; shares = all_shares; opened = Some opening; seen = []; made = []; also = []; ended = [] }

  -- the seat keeps its lists, and half of what it has
  abbrev pub kept_half : View O → View O
  kept_half v = record v { left = v.left - 1 - (v.left - 1) / 2; shares = v.shares - v.shares / 2 }

  -- the new seat has seen what the old one has, made nothing, and waits for its number
  abbrev pub given_half : View O → View O
  given_half v = record { stage = Unnamed; number = 0; names = v.names; left = (v.left - 1) / 2; shares = v.shares / 2; opened = v.opened; seen = v.seen; made = []; also = []; ended = [] }

  abbrev pub joined : View O → View O → View O
  joined v w = record v { names = max v.names w.names; left = v.left + w.left; shares = v.shares + w.shares; seen = longer v.seen w.seen; also = shorter v.seen w.seen; ended = v.ended ++ own w ∷ w.ended }

  abbrev pub spent_view : View O
  spent_view = record { stage = Spent; number = 0; names = 0; left = 0; shares = 0; opened = None; seen = []; made = []; also = []; ended = [] }

  -- a new seat has its number, and has made nothing
  abbrev pub named : View O → ℕ → View O
  named v n = record v { stage = Idle; number = n; names = n + 1; made = []; also = []; ended = [] }

  -- the seat is inside, and has seen the whole history
  abbrev pub inside : View O → List Entry → View O
  inside v history = record v { stage = Inside; seen = history }

  -- its turn is over, which was one of those left
  abbrev pub handed_on : View O → Entry → View O
  handed_on v entry = record v { stage = Idle; left = v.left - 1; seen = v.seen ++ entry ∷ []; made = v.made ++ entry ∷ [] }

  abbrev pub compared : View O → View O
  compared v = record v { also = [] }

  -- what a seat with a number knows of itself
  pub record SeatFacts (legal : O → List Entry → Type 0) (v : View O) : Type 0 where
    pub lawful : (opening : O) × (v.opened ≡ Some opening) × legal opening v.seen
    pub paged : AllByRecursion (λ page. entries_of v.seen page.0 ≡ page.1) (own v ∷ v.ended)
    pub apart : IsDistinct nat_eq (numbers (own v ∷ v.ended))
    pub below : AllByRecursion (λ page. page.0 < v.names) (own v ∷ v.ended)
    pub left_fits : v.left ≤ all_turns
    pub shares_fit : v.shares ≤ all_shares
