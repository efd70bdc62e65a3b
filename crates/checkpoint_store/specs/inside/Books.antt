-- The books by number, while records are decided anew
use Rattle.std.specs.Prelude.{◌≡◌, ℕ, List, map}
use Rattle.checkpoint_store.specs.Names.{AllByRecursion, Policy}

abbrev pub Entries : Type 0
Entries = List (ℕ × Policy)

-- the policies, in order
abbrev pub numbered_policies : Entries → List Policy
numbered_policies entries = map (λ (e : ℕ × Policy). e.1) entries

-- each policy stands under its own number
abbrev pub AreKeyed : Entries → Type 0
AreKeyed entries = AllByRecursion (λ (e : ℕ × Policy). e.0 ≡ e.1.id) entries
