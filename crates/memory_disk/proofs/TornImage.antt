-- What reached the disk of each write makes an image.
use Rattle.memory_disk.proofs.Names.{◌≡◌, Vec, Result, Ok, Err, IfOk, ℕ, ◌≤◌, Bool, true, false, List, [], ◌∷◌, length, take, nat_le, refl, arith, cond, leb-true, Torn, put, put_within, reaching, images_after, torn_after, IsImage, torn_put, torn_same, DiskCall, Len, Read, Write, Sync}
use Rattle.std.specs.declared.alloc.Global.{Global}
use Rattle.std.proofs.lemmas.List.{length-take}

torn_within : (old : List ℕ) (at keep : ℕ) (bytes : List ℕ) (begins : Bool) → (begins ≡ true → at ≤ length old)
    → Torn at (length bytes) old (cond begins (put old at (take keep bytes)) old)
torn_within old at keep bytes true within = torn_put old at (length bytes) (take keep bytes) (within refl) (omega (arith, length-take keep bytes))
torn_within old at keep bytes false within = torn_same old at (length bytes)

pub torn_as_image : (calls : List DiskCall) (bytes image : List ℕ) (keep : ℕ) (images : List ℕ → Type 0) → images image
    → images_after bytes images calls (torn_after bytes image keep calls)
torn_as_image [] bytes image keep images known = known
torn_as_image (Len failed ∷ calls) bytes image keep images known = torn_as_image calls bytes image keep images known
torn_as_image (Read at many failed ∷ calls) bytes image keep images known = torn_as_image calls bytes image keep images known
torn_as_image (Write at written failed ∷ calls) bytes image keep images known =
    torn_as_image calls (put bytes at (reaching failed written.items)) (put_within image at (take keep written.items)) keep
    (λ later. (earlier : List ℕ) × images earlier × Torn at (length written.items) earlier later)
    (image, known, torn_within image at keep written.items (nat_le at (length image)) (leb-true at (length image)))
torn_as_image (Sync false ∷ calls) bytes image keep images known = torn_as_image calls bytes bytes keep (λ later. later ≡ bytes) refl
torn_as_image (Sync true ∷ calls) bytes image keep images known = torn_as_image calls bytes image keep images known

pub torn_possible : (image first : List ℕ) (calls : List DiskCall) (reached : ℕ) → image ≡ torn_after first first reached calls → IsImage first calls image
torn_possible image first calls reached same = rw same (torn_as_image calls first first reached (λ earlier. earlier ≡ first) refl)

-- the same for an answer, where it gives one
pub torn_answer_possible : {E : Type 0} (answer : Result (Vec ℕ Global) E) (first : List ℕ) (calls : List DiskCall) (reached : ℕ)
    → IfOk answer (λ image. image.items ≡ torn_after first first reached calls) → IfOk answer (λ image. IsImage first calls image.items)
torn_answer_possible (Ok image) first calls reached same = torn_possible image.items first calls reached same
torn_answer_possible (Err fault) first calls reached same = cc
