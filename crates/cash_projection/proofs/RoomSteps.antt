-- What a projection has at hand, before and after it reads and tallies.
use Rattle.cash_projection.proofs.Names.{◌≡◌, ℕ, ◌+◌, ◌≤◌, ℤ, List, [], ◌∷◌, ◌++◌, length, sym, ap, ◌∙◌, subst, append-nil, append_assoc, length-append, arith, Vec, Global, AllByRecursion, with_items_is, most_commands, Policy, Dated, AreAsBefore, IsAsBefore, IsCashOf, IsOfIssue, GivesTally, IsProjectorFor, TakesPortion, IsSized, IsTallyOf, Tally}
use Rattle.std.specs.Vec.{with_items}
use Rattle.std.proofs.lemmas.Slice.Zip.{AllZip-long}
use Rattle.policy_machine.specs.Rules.{IsSound}
use Rattle.parallel_value.proofs.PieceSteps.{all_more}
use Rattle.snapshot_value.proofs.RowSteps.{all_append}
use Rattle.cash_projection.specs.Pinned.{IsProjectionAt}
use Rattle.cash_projection.specs.inside.Rooms.{CanTally, HasTallied}
use Rattle.cash_projection.specs.declared.printing.Projection.{Projection}
use Rattle.cash_projection.specs.declared.projector.Projector.{Projector}
use Rattle.cash_projection.specs.declared.tallier.Tallier.{Tallier}
use Rattle.cash_projection.proofs.Portioning.{CanJoin}
use Rattle.cash_projection.proofs.Tallying.{tally_sized}

-- the workers, written back into the memory from which they came
pub still_with : (projectors : Vec Projector Global) (new : List Projector) → AreAsBefore TakesPortion GivesTally projectors.items new
    → AreAsBefore TakesPortion GivesTally projectors.items (with_items projectors new).items
still_with projectors new still =
    rw (with_items_is projectors new (AllZip-long (IsAsBefore TakesPortion GivesTally) projectors.items new still ∙ sym projectors.ok.0)) still

module _ (basis : List Dated) (on : ℤ) where
  still_for : (years : ℕ) (old new : List Projector) → AreAsBefore TakesPortion GivesTally old new
      → AllByRecursion (IsProjectorFor basis on years) old → AllByRecursion (IsProjectorFor basis on years) new
  still_for years [] [] still each = tt
  still_for years [] (q ∷ new) still each = absurd still
  still_for years (p ∷ old) [] still each = absurd still
  still_for years (p ∷ old) (q ∷ new) still each = (
    record {
      takes = λ portion sound few. still.0.takes_still portion (each.0.takes portion sound few);
      by = λ portion tally given. each.0.by portion tally (still.0.gives_only portion tally given);
    },
    still_for years old new still.1 each.1,
  )

  module _ (years : ℕ) where
    -- nothing yet
    pub none_read : (tallier : Tallier) → tallier.on ≡ on → years ≤ 131 → 1 ≤ length tallier.projectors.items → length tallier.projectors.items ≤ 64
        → AllByRecursion (IsProjectorFor basis on years) tallier.projectors.items → tallier.room.items ≡ [] → IsTallyOf basis on years [] tallier.tally
        → HasTallied basis on years [] tallier
    none_read tallier day most some few each unread is =
        let same : years ≡ tallier.tally.years = sym is.tallied.same in
        record {
          day = day;
          many = is.tallied.same;
          most = most;
          some = some;
          few = few;
          each = subst (λ n. AllByRecursion (IsProjectorFor basis on n) tallier.projectors.items) same each;
          sound = subst (AllByRecursion IsOfIssue) (sym unread) tt;
          tallied = [];
          whole = sym unread;
          is = subst (λ n. IsTallyOf basis on n [] tallier.tally) same is;
        }

    module _ (policies : List Policy) (old new : Tallier) (has : HasTallied basis on years policies old) where
      -- more was read
      pub more_read : (part : List Policy) → AllByRecursion IsSound part → new.on ≡ old.on → new.projectors.items ≡ old.projectors.items
          → new.tally ≡ old.tally → new.room.items ≡ old.room.items ++ part → HasTallied basis on years (policies ++ part) new
      more_read part sound day same tally longer = record {
        day = day ∙ has.day;
        many = ap (λ (t : Tally). t.years) tally ∙ has.many;
        most = has.most;
        some = subst (λ (ps : List Projector). 1 ≤ length ps) (sym same) has.some;
        few = subst (λ (ps : List Projector). length ps ≤ 64) (sym same) has.few;
        each = subst (λ (t : Tally). AllByRecursion (IsProjectorFor basis on t.years) new.projectors.items) (sym tally)
            (subst (AllByRecursion (IsProjectorFor basis on old.tally.years)) (sym same) has.each);
        sound = subst (AllByRecursion IsOfIssue) (sym longer)
            (all_append IsOfIssue old.room.items part has.sound (all_more IsSound IsOfIssue part (λ policy is. is.issue_in) sound));
        tallied = has.tallied;
        whole =
            ap (λ (ps : List Policy). ps ++ part) has.whole ∙ append_assoc has.tallied old.room.items part
            ∙ ap (λ (room : List Policy). has.tallied ++ room) (sym longer);
        is = subst (λ (t : Tally). IsTallyOf basis on t.years has.tallied t) (sym tally) has.is;
      }

      -- what was read is tallied
      pub room_tallied : AreAsBefore TakesPortion GivesTally old.projectors.items new.projectors.items → new.on ≡ old.on → new.room.items ≡ []
          → IsTallyOf basis on old.tally.years (has.tallied ++ old.room.items) new.tally → HasTallied basis on years policies new
      room_tallied still day unread is =
          let many = AllZip-long (IsAsBefore TakesPortion GivesTally) old.projectors.items new.projectors.items still in
          let same : old.tally.years ≡ new.tally.years = sym is.tallied.same in
          record {
            day = day ∙ has.day;
            many = sym same ∙ has.many;
            most = has.most;
            some = omega (arith, many, has.some);
            few = omega (arith, many, has.few);
            each = subst (λ n. AllByRecursion (IsProjectorFor basis on n) new.projectors.items) same
                (still_for old.tally.years old.projectors.items new.projectors.items still has.each);
            sound = subst (AllByRecursion IsOfIssue) (sym unread) tt;
            tallied = policies;
            whole = sym (ap (λ (room : List Policy). policies ++ room) unread ∙ append-nil policies);
            is = subst (λ n. IsTallyOf basis on n policies new.tally) same
                (subst (λ (ps : List Policy). IsTallyOf basis on old.tally.years ps new.tally) (sym has.whole) is);
          }

    -- all that was read is tallied
    module _ (policies : List Policy) (tallier : Tallier) (has : HasTallied basis on years policies tallier) (unread : tallier.room.items ≡ [])
        (limit : length policies ≤ most_commands) where
      whole_tallied : IsTallyOf basis on tallier.tally.years policies tallier.tally
      whole_tallied =
          subst (λ (ps : List Policy). IsTallyOf basis on tallier.tally.years ps tallier.tally)
          (sym (has.whole ∙ ap (λ (room : List Policy). has.tallied ++ room) unread ∙ append-nil has.tallied)) has.is

      pub whole_sized : IsSized tallier.tally × (tallier.tally.policies ≡ length policies)
      whole_sized = tally_sized basis on tallier.tally.years policies tallier.tally whole_tallied (omega (arith, has.many, has.most)) limit

      pub projection_at : (position : ℕ) (projection : Projection) → projection.position ≡ position → projection.on ≡ on
          → projection.policies ≡ tallier.tally.policies
          → ((basis : List Dated) (on : ℤ) (ps : List Policy) → IsTallyOf basis on tallier.tally.years ps tallier.tally
          → IsCashOf basis on ps tallier.tally.years projection.unvalued projection.years)
          → IsProjectionAt basis on years position policies projection
      projection_at position projection where_ day counted told =
          let cash : IsCashOf basis on policies years projection.unvalued projection.years =
          subst (λ n. IsCashOf basis on policies n projection.unvalued projection.years) has.many (told basis on policies whole_tallied) in
          record {
            pinned = where_;
            day = day;
            counted = counted ∙ whole_sized.1;
            cash = cash;
            few = limit;
          }

module _ (tallier : Tallier) (can : CanTally tallier) where
  both_long : length can.policies ≡ length can.has.tallied + length tallier.room.items
  both_long = ap length can.has.whole ∙ length-append can.has.tallied tallier.room.items

  pub room_few : length tallier.room.items ≤ most_commands
  room_few = omega (arith, both_long, can.limit)

  -- the tally of what was read can be joined
  pub can_join_room : (tally : Tally) → IsTallyOf can.basis can.on tallier.tally.years tallier.room.items tally → CanJoin tallier.tally tally
  can_join_room tally is =
      let most : tallier.tally.years ≤ 131 = omega (arith, can.has.many, can.has.most) in
      let ours = tally_sized can.basis can.on tallier.tally.years can.has.tallied tallier.tally can.has.is most (omega (arith, both_long, can.limit)) in
      let theirs = tally_sized can.basis can.on tallier.tally.years tallier.room.items tally is most room_few in
      record {
        years = (sym is.tallied.same, most);
        few = omega (arith, ours.1, theirs.1, both_long, can.limit);
        ours = ours.0;
        theirs = theirs.0;
      }
