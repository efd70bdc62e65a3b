-- What one more command changes in what a watcher notes
use Rattle.std.proofs.Common.{◌≡◌, ℕ, zero, suc, ◌<◌, Bool, true, false, List, [], ◌∷◌, ◌++◌, length, take, refl, ap, inl, inr, lit<, arith}
use Rattle.std.specs.Prelude.{◌||◌, if◌then◌else◌}
use Rattle.policy_types.specs.declared.command.Command.{Command}
use Rattle.watcher_set.specs.Noted.{noted_of, is_done, IsNoted}

neither : (a b : Bool) → (a || b) ≡ false → (a ≡ false) × (b ≡ false)
neither true b h = absurd (cc)
neither false b h = (refl, h)

or_false : (a : Bool) → (a || false) ≡ a
or_false true = refl
or_false false = refl

either_way : (a : Bool) (list : List Command) → (if a then list else list) ≡ list
either_way true list = refl
either_way false list = refl

done_either : (a b c : Bool) → (a || b) ≡ true → (b ≡ true → c ≡ true) → (a || c) ≡ true
done_either true b c h next = refl
done_either false b c h next = next h

rest_same : (a b : Bool) (longer shorter : List Command) → (a || b) ≡ true → (b ≡ true → longer ≡ shorter)
    → (if a then [] else longer) ≡ (if a then [] else shorter)
rest_same true b longer shorter h next = refl
rest_same false b longer shorter h next = next h

-- not done so far: all is noted
pub noted_all : (stops : List Command → Bool) (commands : List Command) → is_done stops commands ≡ false
    → noted_of stops commands ≡ commands
noted_all stops [] h = refl
noted_all stops (first ∷ later) h =
    let no = neither (stops (first ∷ [])) (is_done (λ list. stops (first ∷ list)) later) h in
    rw no.0 (ap (λ list. first ∷ list) (noted_all (λ list. stops (first ∷ list)) later no.1))

-- one more command is noted, and the test of the whole list decides
pub is_done-more : (stops : List Command → Bool) (commands : List Command) (command : Command)
    → is_done stops commands ≡ false → is_done stops (commands ++ command ∷ []) ≡ stops (commands ++ command ∷ [])
is_done-more stops [] command h = or_false (stops (command ∷ []))
is_done-more stops (first ∷ later) command h =
    let no = neither (stops (first ∷ [])) (is_done (λ list. stops (first ∷ list)) later) h in
    rw no.0 (is_done-more (λ list. stops (first ∷ list)) later command no.1)

pub noted_of-more : (stops : List Command → Bool) (commands : List Command) (command : Command)
    → is_done stops commands ≡ false → noted_of stops (commands ++ command ∷ []) ≡ commands ++ command ∷ []
noted_of-more stops [] command h = ap (λ list. command ∷ list) (either_way (stops (command ∷ [])) [])
noted_of-more stops (first ∷ later) command h =
    let no = neither (stops (first ∷ [])) (is_done (λ list. stops (first ∷ list)) later) h in
    rw no.0 (ap (λ list. first ∷ list) (noted_of-more (λ list. stops (first ∷ list)) later command no.1))

-- done before: nothing more is noted
pub is_done-stays : (stops : List Command → Bool) (commands : List Command) (command : Command)
    → is_done stops commands ≡ true → is_done stops (commands ++ command ∷ []) ≡ true
is_done-stays stops [] command h = absurd (cc)
is_done-stays stops (first ∷ later) command h =
    done_either (stops (first ∷ [])) _ _ h (is_done-stays (λ list. stops (first ∷ list)) later command)

pub noted_of-stays : (stops : List Command → Bool) (commands : List Command) (command : Command)
    → is_done stops commands ≡ true → noted_of stops (commands ++ command ∷ []) ≡ noted_of stops commands
noted_of-stays stops [] command h = absurd (cc)
noted_of-stays stops (first ∷ later) command h =
    ap (λ list. first ∷ list)
    (rest_same (stops (first ∷ [])) _ _ _ h (noted_of-stays (λ list. stops (first ∷ list)) later command))

early : (stops : List Command → Bool) (first : Command) (noted : List Command) → stops (first ∷ []) ≡ false
    → ((count : ℕ) → 0 < count → count < length noted → stops (first ∷ take count noted) ≡ false)
    → (count : ℕ) → 0 < count → count < length (first ∷ noted) → stops (take count (first ∷ noted)) ≡ false
early stops first noted said later zero some less = absurd (omega arith)
early stops first noted said later (suc zero) some less = said
early stops first noted said later (suc (suc count)) some less = later (suc count) (omega arith) (omega arith)

-- by recursion and by places it is the same
noted_first : (stops : List Command → Bool) (first : Command) (later : List Command) (answer : Bool)
    → stops (first ∷ []) ≡ answer → IsNoted (λ list. stops (first ∷ list)) later (noted_of (λ list. stops (first ∷ list)) later)
    → IsNoted stops (first ∷ later)
    (first ∷ (if answer then [] else noted_of (λ list. stops (first ∷ list)) later))
noted_first stops first later true said by_rest = record {
  rest = later;
  begins = refl;
  goes_on = λ count some less. absurd (omega arith);
  ends = inl (lit< tt, said);
}
noted_first stops first later false said by_rest = record {
  rest = by_rest.rest;
  begins = ap (λ list. first ∷ list) by_rest.begins;
  goes_on = early stops first _ said by_rest.goes_on;
  ends = elim by_rest.ends [ inl done ↦ inl (omega arith, done.1) | inr none ↦ inr none ];
}

pub IsNoted-noted_of : (stops : List Command → Bool) (commands : List Command) → IsNoted stops commands (noted_of stops commands)
IsNoted-noted_of stops [] = record {
  rest = [];
  begins = refl;
  goes_on = λ count some less. absurd (omega arith);
  ends = inr refl;
}
IsNoted-noted_of stops (first ∷ later) =
    noted_first stops first later (stops (first ∷ [])) refl (IsNoted-noted_of (λ list. stops (first ∷ list)) later)
