-- The ends of a ring of moments, of which the first may be missing
use Rattle.std.specs.Prelude.{◌≡◌, ℕ, ◌+◌, ◌≤◌, List, [], ◌∷◌, ◌++◌, Option, Some, None}
use Rattle.rtrb.specs.Ring.{IsPair, SameProducer, known_free, received, sent}
use Rattle.rtrb.specs.declared.producer.Producer.{Producer}
use Rattle.rtrb.specs.declared.consumer.Consumer.{Consumer}

module _ {A P : Type 0} where
  -- the moments that were told, oldest first
  abbrev pub told : Option (Producer ℕ A P) → List ℕ
  told (Some ring) = sent ring
  told None = []

  -- the same end of the same ring, or none
  abbrev pub SameOutlet : Option (Producer ℕ A P) → Option (Producer ℕ A P) → Type 0
  SameOutlet (Some one) (Some other) = SameProducer one other
  SameOutlet None None = Unit {0}
  SameOutlet _ _ = ⊥

  -- there is room for so many moments more, or nobody hears them
  abbrev pub HasRoomFor : ℕ → Option (Producer ℕ A P) → Type 0
  HasRoomFor many (Some ring) = many ≤ known_free ring
  HasRoomFor many None = Unit {0}

  -- one moment more was told, and took the room of one; or nobody heard it
  abbrev pub TellsOne : Option (Producer ℕ A P) → Option (Producer ℕ A P) → ℕ → Type 0
  TellsOne (Some old) (Some new) moment = SameProducer old new × (sent new ≡ sent old ++ moment ∷ [])
      × (known_free old ≡ known_free new + 1)
  TellsOne None None moment = Unit {0}
  TellsOne _ _ _ = ⊥

  -- the two ends of one ring
  abbrev pub ArePaired : Option (Producer ℕ A P) → Consumer ℕ A P → Type 0
  ArePaired (Some outlet) inlet = IsPair outlet inlet
  ArePaired None inlet = ⊥

  -- the two ends of a ring through which nothing went
  pub record IsNewRing (outlet : Option (Producer ℕ A P)) (inlet : Consumer ℕ A P) : Type 0 where
    pub paired : ArePaired outlet inlet
    pub untold : told outlet ≡ []
    pub unheard : received inlet ≡ []
