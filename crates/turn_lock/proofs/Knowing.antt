-- What one seat knows: read at its stage, and kept while others step.
use Rattle.turn_lock.proofs.Names.{◌≡◌, ℕ, ◌<◌, ◌≤◌, ◌≢◌, eqb, List, [], ◌∷◌, ◌++◌, length, sym, refl, ap, ◌∙◌, subst, arith, Option, Some, None, length-append, AllByRecursion, IsDistinct, Entry, entries_of, Page, View, Spent, Unnamed, Idle, Inside, IsLive, IsNamed, pages_at, units_at, own, pages, numbers, SeatFacts, PageStands, StageStands, SeatStands}
use Rattle.turn_lock.specs.declared.seats.Stage.{Stage}
use Rattle.turn_lock.proofs.Entries.{entries-other, starts_more}
use Rattle.turn_lock.proofs.Pages.{all_weaker}

-- the seat has the value out
abbrev pub IsInside : Stage → Type 0
IsInside Inside = Unit {0}
IsInside _ = ⊥

-- the seat is outside
abbrev pub IsFree : Stage → Type 0
IsFree Inside = ⊥
IsFree _ = Unit {0}

pub free_outside : (st : Stage) → IsFree st → st ≡ Inside → ⊥
free_outside st free e = subst IsFree e free

pub named_live : (st : Stage) → IsNamed st → IsLive st
named_live Spent n = n
named_live Unnamed n = tt
named_live Idle n = tt
named_live Inside n = tt

pub named_pages : (st : Stage) (own : Page) (ended : List Page) → IsNamed st → pages_at st own ended ≡ own ∷ ended
named_pages Spent own ended n = absurd n
named_pages Unnamed own ended n = absurd n
named_pages Idle own ended n = refl
named_pages Inside own ended n = refl

pub named_units : (st : Stage) (left : ℕ) → IsNamed st → units_at st left ≡ left
named_units Spent left n = absurd n
named_units Unnamed left n = absurd n
named_units Idle left n = refl
named_units Inside left n = refl

pub live_units : (st : Stage) (left : ℕ) → IsLive st → left ≤ units_at st left
live_units Spent left l = absurd l
live_units Unnamed left l = omega arith
live_units Idle left l = omega arith
live_units Inside left l = omega arith

pub live_shares : (st : Stage) (n : ℕ) → IsLive st → Rattle.turn_lock.specs.inside.Seats.shares_at st n ≡ n
live_shares Spent n l = absurd l
live_shares Unnamed n l = refl
live_shares Idle n l = refl
live_shares Inside n l = refl

module _ {O : Type 0} (legal : O → List Entry → Type 0) (opening : O) where
  module _ (h : List Entry) (m lock : ℕ) (owner : ℕ → ℕ) (holder seat : ℕ) where
    abbrev Page_stands : View O → List Page → Type 0
    Page_stands v ps = AllByRecursion (PageStands legal opening h m owner seat v.seen) ps

    -- the pages of a seat with a number, its own first
    pub own_pages : (v : View O) → IsNamed v.stage → SeatStands legal opening h m lock owner holder seat v → AllByRecursion (PageStands legal opening h m owner seat v.seen) (own v ∷ v.ended)
    own_pages v named k = subst (Page_stands v) (named_pages v.stage (own v) v.ended named) k.paged

    pub own_apart : (v : View O) → IsNamed v.stage → SeatStands legal opening h m lock owner holder seat v → IsDistinct eqb (numbers (own v ∷ v.ended))
    own_apart v named k = subst (λ ps. IsDistinct eqb (numbers ps)) (named_pages v.stage (own v) v.ended named) k.apart

    pub own_below : (v : View O) → IsNamed v.stage → SeatStands legal opening h m lock owner holder seat v → AllByRecursion (λ p. p.0 < v.names) (own v ∷ v.ended)
    own_below v named k = subst (AllByRecursion (λ (p : Page). p.0 < v.names)) (named_pages v.stage (own v) v.ended named) k.below

    pub told : (v : View O) → IsNamed v.stage → SeatStands legal opening h m lock owner holder seat v → (v.left ≤ 4611686018427387904) × (v.shares ≤ 4294967296) → SeatFacts legal v
    told v named k fits = record {
      lawful = (opening, k.opened, k.lawful);
      paged = all_weaker (PageStands legal opening h m owner seat v.seen) (λ p. entries_of v.seen p.0 ≡ p.1) (own v ∷ v.ended) (λ p s. s.shown) (own_pages v named k);
      apart = own_apart v named k;
      below = own_below v named k;
      left_fits = fits.0;
      shares_fit = fits.1;
    }

  -- while others get numbers, what the seat knows stays so
  pub stays : (h : List Entry) (m m' lock : ℕ) (owner owner' : ℕ → ℕ) (holder seat : ℕ) (v : View O) → m ≤ m' → ((n : ℕ) → n < m → owner n ≡ seat → owner' n ≡ seat)
      → SeatStands legal opening h m lock owner holder seat v → SeatStands legal opening h m' lock owner' holder seat v
  stays h m m' lock owner owner' holder seat v more owns k = record {
    opened = k.opened;
    seen = k.seen;
    also = k.also;
    lawful = k.lawful;
    sharing = k.sharing;
    paged = all_weaker (PageStands legal opening h m owner seat v.seen) (PageStands legal opening h m' owner' seat v.seen) (pages v)
        (λ p s. let lt = s.given in record { given = omega arith; owned = owns p.0 s.given s.owned; whole = s.whole; shown = s.shown }) k.paged;
    apart = k.apart;
    counted = (let c = k.counted in omega arith);
    below = k.below;
    staged = k.staged;
  }

  stage_outside : (h h' : List Entry) (lock lock' holder holder' seat : ℕ) (seen : List Entry) (st : Stage) → (lock ≡ 1 → holder ≢ seat)
      → StageStands legal opening h lock holder seat seen st → StageStands legal opening h' lock' holder' seat seen st
  stage_outside h h' lock lock' holder holder' seat seen Spent out s = tt
  stage_outside h h' lock lock' holder holder' seat seen Unnamed out s = tt
  stage_outside h h' lock lock' holder holder' seat seen Idle out s = tt
  stage_outside h h' lock lock' holder holder' seat seen Inside out s = absurd (out s.0 s.1)

  -- while another takes the lock, what a seat outside knows stays so
  pub waits : (h : List Entry) (m lock lock' : ℕ) (owner : ℕ → ℕ) (holder holder' seat : ℕ) (v : View O) → (lock ≡ 1 → holder ≢ seat)
      → SeatStands legal opening h m lock owner holder seat v → SeatStands legal opening h m lock' owner holder' seat v
  waits h m lock lock' owner holder holder' seat v out k = record {
    opened = k.opened;
    seen = k.seen;
    also = k.also;
    lawful = k.lawful;
    sharing = k.sharing;
    paged = k.paged;
    apart = k.apart;
    counted = k.counted;
    below = k.below;
    staged = stage_outside h h lock lock' holder holder' seat v.seen v.stage out k.staged;
  }

  -- while the seat inside adds its entry and gives the lock, what another seat knows stays so
  pub follows : (h : List Entry) (e : Entry) (m lock lock' : ℕ) (owner : ℕ → ℕ) (holder id seat : ℕ) (v : View O) → seat ≢ id → owner e.caller ≡ id → holder ≡ id
      → SeatStands legal opening h m lock owner holder seat v → SeatStands legal opening (h ++ e ∷ []) m lock' owner holder seat v
  follows h e m lock lock' owner holder id seat v other by mine k = record {
    opened = k.opened;
    seen = starts_more h v.seen (e ∷ []) k.seen;
    also = starts_more h v.also (e ∷ []) k.also;
    lawful = k.lawful;
    sharing = k.sharing;
    paged = all_weaker (PageStands legal opening h m owner seat v.seen) (PageStands legal opening (h ++ e ∷ []) m owner seat v.seen) (pages v)
        (λ p s. record { given = s.given; owned = s.owned; whole = entries-other h e p.0 (λ is. other (sym s.owned ∙ (ap owner (sym is) ∙ by))) ∙ s.whole; shown = s.shown }) k.paged;
    apart = k.apart;
    counted = k.counted;
    below = k.below;
    staged = stage_outside h (h ++ e ∷ []) lock lock' holder holder seat v.seen v.stage (λ _ is. other (sym is ∙ mine)) k.staged;
  }
