-- What computing a row does to the cache that is handed in.
use Rattle.std.specs.Prelude.{◌≡◌, ℕ, List, All, ℤ, ◌<ℤ◌, Result, Ok, Err}
use Rattle.policy_value.specs.Names.{Policy, PaidUp, Shape, shape_of, Dated, IsPicked, NotValued}
use Rattle.policy_value.specs.declared.cache.ColumnCache.{ColumnCache}
use Rattle.policy_value.specs.declared.key.CacheKey.{CacheKey}
use Rattle.policy_value.specs.Rows.{IsInsured}
use Rattle.policy_value.specs.Caches.{HasAsked, KeepsKeys}

-- the key of a policy by the row of the basis at a place
abbrev pub key_of : Policy → ℕ → CacheKey
key_of policy place = record { basis_row = place; plan = policy.plan; age = policy.age; years = policy.years }

-- a policy in force is asked for by its key; a paid-up policy needs no premium, and leaves the keys as they are
pub record AsksByStatus (policy : Policy) (place : ℕ) (old new : ColumnCache) : Type 0 where
  pub paid_up : policy.status ≡ PaidUp → KeepsKeys old new
  pub other : (policy.status ≡ PaidUp → ⊥) → HasAsked (key_of policy place) old new

-- by a table: a policy without a shape leaves the cache as it is
abbrev pub AsksByShape : Policy → ℕ → Result Shape NotValued → ColumnCache → ColumnCache → Type 0
AsksByShape policy place (Ok shape) old new = AsksByStatus policy place old new
AsksByShape policy place (Err word) old new = new ≡ old

-- for an insured policy: by the last entry of the basis that had begun on its day of issue
pub record AsksByBasis (policy : Policy) (basis : List Dated) (old new : ColumnCache) : Type 0 where
  pub unnamed : All (λ (entry : Dated). policy.issued <ℤ entry.from_day) basis → new ≡ old
  pub named : (index : ℕ) → (entry : Dated) → IsPicked basis policy.issued index entry
      → AsksByShape policy index (shape_of policy.plan policy.age policy.years entry.table) old new

pub record UsesCache (policy : Policy) (basis : List Dated) (on : ℤ) (old new : ColumnCache) : Type 0 where
  pub insured : IsInsured policy on → AsksByBasis policy basis old new
  pub uninsured : (IsInsured policy on → ⊥) → new ≡ old
