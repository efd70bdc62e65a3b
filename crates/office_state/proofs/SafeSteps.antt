-- The moments since which the accepted commands are safe, from one turn to the next
use Rattle.office_state.proofs.Names.{◌≡◌, ℕ, ◌+◌, ◌-◌, ◌≤◌, List, [], ◌∷◌, ◌++◌, Option, Some, None, refl, sym, ◌∙◌, subst, append-nil, append_assoc, arith, inl, inr, Ghosts, Command, Leaves, sent, SameOutlet, TellsOne, HasRoomFor, most_commands, told, AreSafeSince, HoldsAtLeast, Opens, MomentRing}
use Rattle.std.specs.Prelude.{IfSome}

-- what holds at least some commands holds at least the first of them
least_first : (held commands : List Command) (command : Command) (image : List ℕ) → HoldsAtLeast (held ++ command ∷ commands) image
    → HoldsAtLeast (held ++ command ∷ []) image
least_first held commands command image least =
    let grown : (held ++ command ∷ commands) ++ least.0 ≡ (held ++ command ∷ []) ++ (commands ++ least.0) =
    append_assoc held (command ∷ commands) least.0 ∙ sym (append_assoc held (command ∷ []) (commands ++ least.0)) in
    (commands ++ least.0, subst (Opens image) grown least.1)

module _ {D : Type 0} (g : Ghosts D) where
  -- later calls leave them safe that leave images which hold them all
  pub safe_on : (old new : D) (P : List ℕ → Type 0) → Leaves g old new P → (held commands : List Command) (moments : List ℕ)
      → ((image : List ℕ) → P image → HoldsAtLeast (held ++ commands) image)
      → AreSafeSince g old held commands moments → AreSafeSince g new held commands moments
  safe_on old new P leaves held [] [] least safe = tt
  safe_on old new P leaves held [] (moment ∷ moments) least safe = absurd safe
  safe_on old new P leaves held (command ∷ commands) [] least safe = absurd safe
  safe_on old new P leaves held (command ∷ commands) (moment ∷ moments) least safe = (
    omega (arith, safe.0, leaves.later),
    λ (image : List ℕ) (left : g.left_since new moment image). elim (leaves.before moment image safe.0 left) [
      | inl was ↦ safe.1 image was
      | inr now ↦ least_first held commands command image (least image now)
    ],
    safe_on old new P leaves (held ++ command ∷ []) commands moments
        (λ image now. subst (λ all. HoldsAtLeast all image) (sym (append_assoc held (command ∷ []) commands)) (least image now)) safe.2,
  )

  -- one more command is safe since a moment
  pub safe_more : (disk : D) (held commands : List Command) (moments : List ℕ) (command : Command) (moment : ℕ)
      → AreSafeSince g disk held commands moments → moment ≤ g.clock disk
      → ((image : List ℕ) → g.left_since disk moment image → HoldsAtLeast ((held ++ commands) ++ command ∷ []) image)
      → AreSafeSince g disk held (commands ++ command ∷ []) (moments ++ moment ∷ [])
  safe_more disk held [] [] command moment safe passed since = (
    passed,
    λ image left. subst (λ all. HoldsAtLeast (all ++ command ∷ []) image) (append-nil held) (since image left),
    tt,
  )
  safe_more disk held [] (other ∷ moments) command moment safe passed since = absurd safe
  safe_more disk held (first ∷ commands) [] command moment safe passed since = absurd safe
  safe_more disk held (first ∷ commands) (other ∷ moments) command moment safe passed since = (
    safe.0,
    safe.1,
    safe_more disk (held ++ first ∷ []) commands moments command moment safe.2 passed
        (λ image left. subst (λ all. HoldsAtLeast (all ++ command ∷ []) image) (sym (append_assoc held (first ∷ []) commands)) (since image left)),
  )

-- once one more is reported
pub told_more : (a b : Option MomentRing) (moment : ℕ) (P Q : List ℕ → Type 0) → TellsOne a b moment
    → ((moments : List ℕ) → P moments → Q (moments ++ moment ∷ [])) → IfSome a (λ ring. P (sent ring)) → IfSome b (λ ring. Q (sent ring))
told_more None None moment P Q tells step holds = tt
told_more None (Some q) moment P Q tells step holds = absurd tells
told_more (Some p) None moment P Q tells step holds = absurd tells
told_more (Some p) (Some q) moment P Q tells step holds = subst Q (sym tells.1) (step (sent p) holds)

-- the same moments, at a later time
pub told_on : (a : Option MomentRing) (P Q : List ℕ → Type 0) → ((moments : List ℕ) → P moments → Q moments) → IfSome a (λ ring. P (sent ring))
    → IfSome a (λ ring. Q (sent ring))
told_on None P Q step holds = tt
told_on (Some p) P Q step holds = step (sent p) holds

-- before any is reported
pub untold_safe : {D : Type 0} (g : Ghosts D) (disk : D) (held : List Command) (a : Option MomentRing) → told a ≡ []
    → IfSome a (λ ring. AreSafeSince g disk held [] (sent ring))
untold_safe g disk held None none = tt
untold_safe g disk held (Some p) none = subst (AreSafeSince g disk held []) (sym none) tt

-- once one more is reported, there is room for one fewer
pub room_told : (a b : Option MomentRing) (moment many fewer : ℕ) → TellsOne a b moment → fewer + 1 ≤ many → HasRoomFor many a → HasRoomFor fewer b
room_told None None moment many fewer tells less room = tt
room_told None (Some q) moment many fewer tells less room = absurd tells
room_told (Some p) None moment many fewer tells less room = absurd tells
room_told (Some p) (Some q) moment many fewer tells less room = omega (arith, tells.2, less, room)

-- and if there is capacity for many, there is for fewer
pub room_fewer : (a : Option MomentRing) (many fewer : ℕ) → fewer ≤ many → HasRoomFor many a → HasRoomFor fewer a
room_fewer None many fewer less room = tt
room_fewer (Some p) many fewer less room = omega (arith, less, room)

-- one more command was accepted, so one fewer may be
pub one_fewer : (count more : ℕ) → count ≤ most_commands → (count ≡ 4000000 → ⊥) → more ≡ count + 1
    → (most_commands - more) + 1 ≤ most_commands - count
one_fewer count more few full is = omega (arith, few, full, is)

-- while one more may be accepted, there is room for its moment
pub room_for_one : (a : Option MomentRing) (count : ℕ) → count ≤ most_commands → (count ≡ 4000000 → ⊥) → HasRoomFor (most_commands - count) a
    → HasRoomFor 1 a
room_for_one a count few full room = room_fewer a (most_commands - count) 1 (omega (arith, few, full)) room

-- the same end of the ring
pub outlet_itself : (a : Option MomentRing) → SameOutlet a a
outlet_itself None = tt
outlet_itself (Some p) = ((refl, refl, refl, refl), refl)
