-- What worked files are stated by.
use Rattle.posting_journal.proofs.Names.{◌≡◌, ◌≢◌, ◌≤◌, ℕ, List, length, take, drop, slice_index, inl, inr, header, IsUnfinished}

pub not_unfinished : (bytes : List ℕ) → (length bytes ≤ 1 → ⊥) → ((length bytes ≤ 18) × (slice_index bytes 0 ≡ 0) → ⊥)
    → ((length bytes ≡ 18) × (take 16 (drop 1 bytes) ≡ header) × (slice_index bytes 17 ≢ 1) × (slice_index bytes 0 ≢ 1) → ⊥)
    → IsUnfinished bytes → ⊥
not_unfinished bytes short begun nearly (inl h) = short h
not_unfinished bytes short begun nearly (inr (inl h)) = begun h
not_unfinished bytes short begun nearly (inr (inr h)) = nearly h
