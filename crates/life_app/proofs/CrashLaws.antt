-- What a crash leaves of a run, and what the next run finds
use Rattle.life_app.proofs.Names.{◌≡◌, ℕ, List, [], ◌∷◌, ◌++◌, refl, ap, sym, ◌∙◌, subst, inl, inr, append-nil, append_assoc, Ghosts, Command, Entry, Opening, accepted_of, commands_after, IsSafe, HoldsOnce, IsLeftAlone, IsOneMore, Opens, opens_to_one, AreAllHeld, AreHeld, HasRun}

-- what is there of a prefix, in parts
pub record Parts (opening : Opening) (history : List Entry) (image : List ℕ) : Type 0 where
  pub held : List Command
  pub rest : List Command
  pub more : List Command
  pub front : accepted_of history ≡ held ++ rest
  pub one : IsOneMore history held more
  pub opens : Opens image (opening.commands ++ held ++ more)

pub in_parts : (opening : Opening) (history : List Entry) (image : List ℕ) → HoldsOnce opening history image → Parts opening history image
in_parts opening history image (held, rest, front, inl all) = record {
  held = held;
  rest = rest;
  more = [];
  front = front;
  one = tt;
  opens = subst (Opens image) (sym (append-nil (opening.commands ++ held))) all;
}
in_parts opening history image (held, rest, front, inr more) = record {
  held = held;
  rest = rest;
  more = more.0 ∷ [];
  front = front;
  one = more.1;
  opens = more.2;
}

-- a file that opens to the commands from before the run
pub as_before : (opening : Opening) (history : List Entry) (image : List ℕ) → Opens image opening.commands → HoldsOnce opening history image
as_before opening history image opens =
    ([], accepted_of history, refl, inl (subst (Opens image) (sym (append-nil opening.commands)) opens))

-- a file that opens as one did that was left
alike : (opening : Opening) (history : List Entry) (before image : List ℕ) (commands : List Command)
    → HoldsOnce opening history before → Opens before commands → Opens image commands → HoldsOnce opening history image
alike opening history before image commands (held, rest, front, inl all) opens again =
    (held, rest, front, inl (subst (Opens image) (opens_to_one before commands (opening.commands ++ held) opens all) again))
alike opening history before image commands (held, rest, front, inr more) opens again =
    (held, rest, front, inr (more.0, more.1, subst (Opens image) (opens_to_one before commands (opening.commands ++ held ++ more.0 ∷ []) opens more.2) again))

-- with no turns none is accepted, and none faulted
none_held : (held rest more : List Command) → [] ≡ held ++ rest → IsOneMore [] held more → held ++ more ≡ []
none_held [] rest [] front one = refl
none_held [] rest (command ∷ []) front one = nothing one.before _ _ one.turns
  where
    nothing : (before : List Entry) (entry : Entry) (after : List Entry) → [] ≡ before ++ entry ∷ after → command ∷ [] ≡ []
    nothing [] entry after none = cc
    nothing (first ∷ before) entry after none = cc
none_held [] rest (command ∷ other ∷ more) front one = absurd one
none_held (command ∷ held) rest more front one = cc

pub opens_as_begun : (opening : Opening) (image : List ℕ) → HoldsOnce opening [] image → Opens image opening.commands
opens_as_begun opening image once =
    let held = in_parts opening [] image once in
    let none = none_held held.held held.rest held.more held.front held.one in
    subst (Opens image) (append_assoc opening.commands held.held held.more
    ∙ ap (λ cs. opening.commands ++ cs) none ∙ append-nil opening.commands) held.opens

pub next_commands : (opening : Opening) (history : List Entry) (image : List ℕ) (commands : List Command)
    → HoldsOnce opening history image → Opens image commands → AreHeld opening history commands
next_commands opening history image commands once opens =
    let holds = in_parts opening history image once in
    record {
      held = holds.held;
      rest = holds.rest;
      more = holds.more;
      front = holds.front;
      one = holds.one;
      are = opens_to_one image commands (opening.commands ++ holds.held ++ holds.more) opens holds.opens;
    }

module _ {D : Type 0} (g : Ghosts D) (old new : D) (opening : Opening) (history : List Entry) where
  pub during : HasRun g old new opening history → (image : List ℕ) → g.left_since new (g.clock old) image → HoldsOnce opening history image
  during ran image left = elim (ran.left.since ran.honest image left) [
    | inl before ↦ as_before opening history image (subst (λ bytes. Opens bytes opening.commands) (sym (ran.safe image before)) (ran.left.opened ran.honest))
    | inr held ↦ held
  ]

  pub afterwards : HasRun g old new opening history → (image : List ℕ) (commands : List Command) → g.may_leave new image
      → Opens image commands → AreAllHeld opening history commands
  afterwards ran image commands left opens = elim (ran.left.now ran.honest image left) [
    | inl all ↦ inl (opens_to_one image commands (commands_after opening history) opens (inl all))
    | inr more ↦ inr (
      more.0,
      more.1,
      opens_to_one image commands (commands_after opening history ++ more.0 ∷ []) opens (inl more.2),
    )
  ]

module _ {E : Type 0} (g : Ghosts E) (next last : E) (opening : Opening) (history : List Entry)
    (holds : HoldsOnce opening history (g.reads next)) where
  pub unopened_again : g.honest last → IsSafe g next → IsLeftAlone g next last → (image : List ℕ)
      → g.left_since last (g.clock next) image → HoldsOnce opening history image
  unopened_again honest safe alone image left = elim (alone.since honest image left) [
    | inl before ↦ subst (HoldsOnce opening history) (sym (safe image before)) holds
    | inr both ↦ alike opening history (g.reads next) image both.0 holds both.1 both.2
  ]

  pub opened_again : (second : Opening) → HasRun g next last second [] → (image : List ℕ)
      → g.left_since last (g.clock next) image → HoldsOnce opening history image
  opened_again second ran image left =
      alike opening history (g.reads next) image second.commands holds (ran.left.opened ran.honest)
      (opens_as_begun second image (during g next last second [] ran image left))
