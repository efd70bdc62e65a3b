-- The disk model: what the calls of an honest disk do to what it reads, and to the images that a
-- crash may leave. An image is a whole file's bytes.
use Rattle.std.specs.Prelude.{◌≡◌, ◌⊎◌, ℕ, ◌+◌, ◌≤◌, max, List, ◌++◌, length, take, drop, Result, OnOk, OnErr}
use Rattle.outside_io.specs.Faults.{Rose}

-- a call fails only if the count of faults rose, and a call that succeeds doesn't change the count
pub record HasDiskCause {T E : Type 0} (before now : ℕ) (result : Result T E) : Type 0 where
  pub later : before ≤ now
  pub failed : OnErr result (Rose before now)
  pub succeeded : OnOk result (now ≡ before)

-- old with these bytes over it from a place on
abbrev pub put : List ℕ → ℕ → List ℕ → List ℕ
put old at bytes = take at old ++ bytes ++ drop (at + length bytes) old

-- new is old with these bytes written over it from a place on
abbrev pub Holds : List ℕ → ℕ → List ℕ → List ℕ → Type 0
Holds old at bytes new = new ≡ put old at bytes

-- A write that a crash or a fault cuts short. In its range and past the old end there may be any bytes; elsewhere the
-- bytes are those of before; the length is any from the old to the new.
pub record Torn (at many : ℕ) (old new : List ℕ) : Type 0 where
  pub before : take at new ≡ take at old
  pub after : drop (at + many) new ≡ drop (at + many) old
  pub no_shorter : length old ≤ length new
  pub no_longer : length new ≤ max (length old) (at + many)

-- the images after a write of so many bytes
abbrev pub torn_images : (List ℕ → Type 0) → ℕ → ℕ → List ℕ → Type 0
torn_images images at many later = (earlier : List ℕ) × images earlier × Torn at many earlier later

-- each new image is an old one after a step
abbrev pub Follows : (List ℕ → List ℕ → Type 0) → (List ℕ → Type 0) → (List ℕ → Type 0) → Type 0
Follows step old new = (image : List ℕ) → new image → (earlier : List ℕ) × old earlier
    × step earlier image

-- a crash leaves this image and no other
abbrev pub Only : List ℕ → (List ℕ → Type 0) → Type 0
Only bytes images = (image : List ℕ) → images image → image ≡ bytes

-- a call that asks for the length or reads: what is read stays, and no new image arises
pub record Looks (before now : List ℕ) (old new : List ℕ → Type 0) : Type 0 where
  pub reads : now ≡ before
  pub images : (image : List ℕ) → new image → old image

-- A write of these bytes from a place on. A write that fails counts as a write of its range: any bytes may be read
-- there. Until a sync, a crash may leave the range in any state.
pub record Writes {T E : Type 0} (at : ℕ) (bytes : List ℕ) (result : Result T E)
    (before now : List ℕ) (old new : List ℕ → Type 0) : Type 0 where
  pub written : OnOk result (Holds before at bytes now)
  pub failed : OnErr result (Torn at (length bytes) before now)
  pub images : Follows (Torn at (length bytes)) old new

-- A sync: what is read stays, and after a success a crash leaves what is read. A failure makes nothing safe.
pub record Syncs {T E : Type 0} (result : Result T E) (before now : List ℕ)
    (old new : List ℕ → Type 0) : Type 0 where
  pub reads : now ≡ before
  pub images : (image : List ℕ) → new image → old image
  pub durable : OnOk result (Only now new)

-- Time goes on: what a crash since a moment might have left now includes what it might have left before, and what it
-- may leave now, and nothing else.
pub record Elapses (before now : ℕ) (past since : ℕ → List ℕ → Type 0)
    (images : List ℕ → Type 0) : Type 0 where
  pub later : before ≤ now
  pub nothing_else : (moment : ℕ) (image : List ℕ) → moment ≤ before → since moment image
      → past moment image ⊎ images image
  pub keeps : (moment : ℕ) (image : List ℕ) → moment ≤ before → past moment image
      → since moment image

-- A crash at any moment since old leaves an image that has P.
pub record LeavesOnly {D : Type 0} (clock : D → ℕ) (left_since : D → ℕ → List ℕ → Type 0)
    (old new : D) (P : List ℕ → Type 0) : Type 0 where
  pub later : clock old ≤ clock new
  pub each : (image : List ℕ) → left_since new (clock old) image → P image
  -- for a run that began earlier
  pub before : (moment : ℕ) (image : List ℕ) → moment ≤ clock old → left_since new moment image
      → left_since old moment image ⊎ P image
