-- A part of the policies is copied, one after the other, in few looks
use Rattle.office_state.proofs.Names.{◌≡◌, ℕ, suc, ◌+◌, ◌-◌, ◌*◌, ◌^◌, ◌<◌, ◌≤◌, get_or, min, nat_eq, nat_le, Bool, true, false, if◌then◌else◌, List, [], ◌∷◌, ◌++◌, length, take, drop, slice_get, sym, ap, ◌∙◌, Some, inl, inr, arith, cases_lt, length-drop, take_min, take_more, get_or-drop, get_or_from_slice_get, slice_get_within, Command, Policy, IsAccepted, sets_of, Setting, own, AreFewSteps, trimmed_from, versions_from, looks_at_most}
use Rattle.std.proofs.Math.Nat.{pow-le-pow_right}
use Rattle.policy_types.specs.Limits.{most_commands}
use Rattle.office_state.proofs.SetSteps.{length-sets_of}

-- one more policy is copied
pub copy_more : (policies : List Policy) (first index : ℕ) (policy : Policy) → first ≤ index → slice_get policies index ≡ Some policy
    → take (index - first) (drop first policies) ++ policy ∷ [] ≡ take (index + 1 - first) (drop first policies)
copy_more policies first index policy from at =
    let rest = drop first policies in
    let within : index < length policies = slice_get_within policies index policy at in
    let inside : index - first < length rest = omega (arith, length-drop first policies, within, from) in
    let place : first + (index - first) ≡ index = omega (arith, from) in
    let here : get_or rest (index - first) policy ≡ policy =
    get_or-drop first policies (index - first) policy ∙ ap (λ n. get_or policies n policy) place
    ∙ get_or_from_slice_get policies index policy policy at in
    let next_place : index - first + 1 ≡ index + 1 - first = omega (arith, from) in
    ap (λ x. take (index - first) rest ++ x ∷ []) (sym here)
    ∙ sym (take_more rest (index - first) policy inside) ∙ ap (λ n. take n rest) next_place

-- all of them are
pub copied_all : (policies : List Policy) (first many : ℕ) → many ≡ min (length policies) (first + 256) - first
    → take many (drop first policies) ≡ take 256 (drop first policies)
copied_all policies first many all =
    let rest = drop first policies in
    let least : many ≡ min 256 (length rest) = omega (arith, all, length-drop first policies) in
    ap (λ n. take n rest) least ∙ take_min 256 rest

module _ {V : Type 0} where
  own_few : (key : ℕ) (sets : List (Setting V)) → length (own key sets) ≤ length sets
  own_few key [] = omega arith
  own_few key (s ∷ sets) = by (nat_eq s.key key) (own_few key sets)
    where
      by : (b : Bool) → length (own key sets) ≤ length sets
          → length (if b then (s.position, s.value) ∷ own key sets else own key sets) ≤ suc (length sets)
      by true rest = omega (arith, rest)
      by false rest = omega (arith, rest)

  trimmed_few : (floor : ℕ) (v : ℕ × V) (vs : List (ℕ × V)) → length (trimmed_from floor v vs) ≤ suc (length vs)
  trimmed_few floor v [] = omega arith
  trimmed_few floor v (w ∷ vs) = by (nat_le w.0 floor) (trimmed_few floor w vs)
    where
      by : (b : Bool) → length (trimmed_from floor w vs) ≤ suc (length vs)
          → length (if b then trimmed_from floor w vs else v ∷ w ∷ vs) ≤ suc (suc (length vs))
      by true rest = omega (arith, rest)
      by false rest = omega (arith, rest)

  from_few : (floor : ℕ) (vs : List (ℕ × V)) → length (versions_from floor vs) ≤ length vs
  from_few floor [] = omega arith
  from_few floor (v ∷ vs) = trimmed_few floor v vs

-- a number has no more versions than there are commands
versions_few : (commands : List Command) (floor key : ℕ) → IsAccepted commands → length commands ≤ most_commands
    → length (versions_from floor (own key (sets_of commands))) ≤ 4000000
versions_few commands floor key accepted few =
    omega (arith, from_few floor (own key (sets_of commands)), own_few key (sets_of commands), length-sets_of commands accepted, few)

few_at : (spent n : ℕ) → 2 ^ spent ≤ 2 * n + 1 → n ≤ 4000000 → spent ≤ 22
few_at spent n looks few = elim (cases_lt spent 23) [
  | inl less ↦ omega (arith, less)
  | inr more ↦ let big : 8388608 ≤ 2 ^ spent = pow-le-pow_right {n = 2} (omega arith) {i = 23} more in absurd (omega (arith, looks, few, big))
]

-- so a policy is found in few looks
pub looks_few : (commands : List Command) (floor key before now : ℕ) → IsAccepted commands → length commands ≤ most_commands
    → AreFewSteps before now (length (versions_from floor (own key (sets_of commands)))) → now ≤ before + looks_at_most
looks_few commands floor key before now accepted few looks =
    omega (arith, looks.1, few_at looks.0 (length (versions_from floor (own key (sets_of commands)))) looks.2 (versions_few commands floor key accepted few))
