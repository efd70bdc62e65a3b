-- One more turn of a caller, and the turns of two callers together.
use Rattle.std.proofs.Common.{◌≡◌, ℕ, ◌+◌, ◌-◌, ◌*◌, ◌/◌, ◌≤◌, Bool, true, false, cond, List, [], ◌∷◌, ◌++◌, length, sum_by, count_by, refl, ap, ◌∙◌, arith, length-append, add-mul}
use Rattle.std.proofs.lemmas.List.Sums.{sum_by-cons, sum_by-append, sum_by_push}
use Rattle.policy_types.specs.declared.entry.Entry.{Entry}
use Rattle.turn_lock.specs.Passes.{Holding, Page, PassFacts, TakesTurn, Enters, LeavesLock, IsFirst, OwnsAll, pages}
use Rattle.measure.proofs.Spread.{all_turns, all_counted}
use Rattle.measure.specs.Turns.{Takes, AllTake, HasTurnsLeft, turns_known, counted_of}

more_few : (b : Bool) (count turns : ℕ) → count ≤ turns → count + cond b 1 0 ≤ turns + 1
more_few true count turns few = omega arith
more_few false count turns few = omega arith

-- the turns of all callers are those of one half and those of the other
pub halves : (callers turns : ℕ) → callers * turns ≡ callers / 2 * turns + (callers - callers / 2) * turns
halves callers turns =
    let split : callers ≡ callers / 2 + (callers - callers / 2) = omega arith in
    ap (λ n. n * turns) split ∙ add-mul (callers / 2) (callers - callers / 2) turns

-- each half of a pass has room for its half of the callers
module _ {O : Type 0} (turns callers : ℕ) (old kept given : Holding O) (two : 2 ≤ callers) (enters : Enters old kept given) (room : HasTurnsLeft turns callers old) where
  pub room_kept : HasTurnsLeft turns (callers / 2) kept
  room_kept =
      let left : kept.left ≡ old.left - 1 - (old.left - 1) / 2 = ap (λ (p : Holding O). p.left) enters.kept_is in
      let shares : kept.shares ≡ old.shares - old.shares / 2 = ap (λ (p : Holding O). p.shares) enters.kept_is in
      let few = room.few in
      let halved = room.halved in
      let shared = room.shared in
      record { few = few; own = omega arith; halved = omega arith; shared = omega arith }

  pub room_given : HasTurnsLeft turns (callers - callers / 2) given
  room_given =
      let left : given.left ≡ (old.left - 1) / 2 = ap (λ (p : Holding O). p.left) enters.given_is in
      let shares : given.shares ≡ old.shares / 2 = ap (λ (p : Holding O). p.shares) enters.given_is in
      let few = room.few in
      let halved = room.halved in
      let shared = room.shared in
      record { few = few; own = omega arith; halved = omega arith; shared = omega arith }

module _ {O : Type 0} (counts : Entry → Bool) where
  -- none so far
  pub takes_none : (pass : Holding O) → Takes counts 0 0 pass pass
  takes_none pass = record {
    turnstile = refl;
    opening = refl;
    shares = refl;
    ended = refl;
    left = omega arith;
    few = omega arith;
    made = omega arith;
    counted = omega arith;
  }

  pub takes_more : (turns count turn : ℕ) (entry : Entry) (old mid new : Holding O) → Takes counts turns count old mid → 1 ≤ mid.left
      → TakesTurn turn entry mid new → Takes counts (turns + 1) (count + cond (counts entry) 1 0) old new
  takes_more turns count turn entry old mid new before left turned =
      let is = turned.new_is in
      let left_is : new.left ≡ mid.left - 1 = ap (λ (p : Holding O). p.left) is in
      let made_is : length new.made ≡ length (mid.made ++ entry ∷ []) = ap (λ (p : Holding O). length p.made) is in
      let counted_is : count_by counts new.made ≡ count_by counts (mid.made ++ entry ∷ []) = ap (λ (p : Holding O). count_by counts p.made) is in
      let left_before = before.left in
      let made_before = before.made in
      let counted_before = before.counted in
      record {
        turnstile = ap (λ (p : Holding O). p.turnstile) is ∙ before.turnstile;
        opening = ap (λ (p : Holding O). p.opening) is ∙ before.opening;
        shares = ap (λ (p : Holding O). p.shares) is ∙ before.shares;
        ended = ap (λ (p : Holding O). p.ended) is ∙ before.ended;
        left = omega arith;
        few = more_few (counts entry) count turns before.few;
        made = omega (arith, length-append mid.made (entry ∷ []));
        counted = omega (arith, sum_by_push (λ e. cond (counts e) 1 0) mid.made entry);
      }

  -- a single caller
  pub alone : (turns count : ℕ) (old new : Holding O) → Takes counts turns count old new → AllTake counts turns count old new
  alone turns count old new took =
      let made = took.made in
      let counted = took.counted in
      let ended_turns = ap (λ (ps : List Page). sum_by (λ (p : Page). length p.1) ps) took.ended in
      let ended_counted = ap (λ (ps : List Page). sum_by (λ (p : Page). count_by counts p.1) ps) took.ended in
      record {
        turnstile = took.turnstile;
        opening = took.opening;
        shares = took.shares;
        made = omega (arith, sum_by-cons (λ (p : Page). length p.1) (new.caller, new.made) new.ended, sum_by-cons (λ (p : Page). length p.1) (old.caller, old.made) old.ended);
        counted = omega (arith, sum_by-cons (λ (p : Page). count_by counts p.1) (new.caller, new.made) new.ended, sum_by-cons (λ (p : Page). count_by counts p.1) (old.caller, old.made) old.ended);
      }

  -- what is added up over the pages of two passes is that over the pages of the one into which the other was taken
  added : (f : Page → ℕ) (gone one new : Holding O) → LeavesLock gone one new → sum_by f (pages new) ≡ sum_by f (pages one) + sum_by f (pages gone)
  added f gone one new leaves = ap (λ (p : Holding O). sum_by f (pages p)) leaves.new_is ∙ sum_by-append f (pages one) (pages gone)

  -- two callers, one of which entered by the other's pass and left into it
  pub together : (turns a b x y : ℕ) (old kept given one gone new : Holding O) → turns ≡ a + b → Enters old kept given
      → AllTake counts a x kept one → AllTake counts b y given gone → LeavesLock gone one new → AllTake counts turns (x + y) old new
  together turns a b x y old kept given one gone new sum enters first second leaves =
      let keeps = enters.kept_is in
      let gives = enters.given_is in
      let kept_shares : kept.shares ≡ old.shares - old.shares / 2 = ap (λ (p : Holding O). p.shares) keeps in
      let given_shares : given.shares ≡ old.shares / 2 = ap (λ (p : Holding O). p.shares) gives in
      let new_shares : new.shares ≡ one.shares + gone.shares = ap (λ (p : Holding O). p.shares) leaves.new_is in
      let kept_turns : turns_known kept ≡ turns_known old = ap (λ (p : Holding O). turns_known p) keeps in
      let given_turns : turns_known given ≡ 0 = ap (λ (p : Holding O). turns_known p) gives in
      let kept_counted : counted_of counts kept ≡ counted_of counts old = ap (λ (p : Holding O). counted_of counts p) keeps in
      let given_counted : counted_of counts given ≡ 0 = ap (λ (p : Holding O). counted_of counts p) gives in
      let one_shares = first.shares in
      let gone_shares = second.shares in
      let one_turns = first.made in
      let gone_turns = second.made in
      let one_counted = first.counted in
      let gone_counted = second.counted in
      record {
        turnstile = ap (λ (p : Holding O). p.turnstile) leaves.new_is ∙ (first.turnstile ∙ ap (λ (p : Holding O). p.turnstile) keeps);
        opening = ap (λ (p : Holding O). p.opening) leaves.new_is ∙ (first.opening ∙ ap (λ (p : Holding O). p.opening) keeps);
        shares = omega arith;
        made = omega (arith, added (λ (p : Page). length p.1) gone one new leaves);
        counted = omega (arith, added (λ (p : Page). count_by counts p.1) gone one new leaves);
      }

-- the turns of a whole history that began with the pass, and those that were counted
module _ {O : Type 0} (legal : O → List Entry → Type 0) (counts : Entry → Bool) (turns count : ℕ) (opening : O) (first last : Holding O)
    (is_first : IsFirst opening first) (take : AllTake counts turns count first last) (facts : PassFacts legal last) (owns : OwnsAll last) where
  pub turns_in_all : length last.seen ≡ turns
  turns_in_all =
      let none : turns_known first ≡ 0 =
      ap (λ ended. sum_by (λ (p : Page). length p.1) ((first.caller, first.made) ∷ ended)) is_first.ended
      ∙ ap (λ made. sum_by (λ (p : Page). length p.1) ((first.caller, made) ∷ [])) is_first.made in
      let made = take.made in
      let all = all_turns legal last facts owns in
      omega arith

  pub counted_in_all : count_by counts last.seen ≡ count
  counted_in_all =
      let none : counted_of counts first ≡ 0 =
      ap (λ ended. sum_by (λ (p : Page). count_by counts p.1) ((first.caller, first.made) ∷ ended)) is_first.ended
      ∙ ap (λ made. sum_by (λ (p : Page). count_by counts p.1) ((first.caller, made) ∷ [])) is_first.made in
      let counted = take.counted in
      let all = all_counted counts legal last facts owns in
      omega arith
