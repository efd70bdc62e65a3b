-- What making a record does to a journal, which may have to be repaired first
use Rattle.std.specs.Prelude.{◌≡◌, ◌⊎◌, ℕ, false, List, [], ◌∷◌, ◌++◌, Result, OnOk, OnErr}
use Rattle.office_state.specs.Names.{Ghosts, Leaves, StandsFor, disk_of, is_clean, Journal, IsJournal}

-- The journal of these bodies may, if it isn't clean, have the body of an earlier fault after them; after a fault it
-- may still have that one, or the new one.
pub record Records {D T E : Type 0} {g : Ghosts D} (old new : Journal D g) (bodies : List (List ℕ))
    (last body : List ℕ) (result : Result T E) : Type 0 where
  pub done : OnOk result (StandsFor new (bodies ++ body ∷ []) [] × (is_clean new ≡ false → ⊥))
  pub failed : OnErr result ((left : List ℕ) × StandsFor new bodies left
      × (is_clean new ≡ false → (left ≡ body) ⊎ ((is_clean old ≡ false) × (left ≡ last))))
  pub moments : Leaves g (disk_of old) (disk_of new) (λ image. IsJournal image bodies
      ⊎ IsJournal image (bodies ++ body ∷ [])
      ⊎ ((is_clean old ≡ false) × IsJournal image (bodies ++ last ∷ [])))
