-- The writes that are done whole make an image.
use Rattle.memory_disk.proofs.Names.{◌≡◌, Vec, Result, Ok, Err, IfOk, ℕ, ◌-◌, ◌≤◌, zero, suc, Bool, true, false, List, [], ◌∷◌, length, take, nat_le, refl, arith, cond, leb-true, le-leb, both_true, Torn, put, reaching, images_after, kept_after, image_of_writes, all_within, IsImage, both_of, length-reaching, length-put, torn_put, torn_same, DiskCall, Len, Read, Write, Sync}
use Rattle.std.specs.declared.alloc.Global.{Global}

torn_done : (old : List ℕ) (at : ℕ) (bytes : List ℕ) (done : Bool) → (done ≡ true → at ≤ length old)
    → Torn at (length bytes) old (cond done (put old at bytes) old)
torn_done old at bytes true within = torn_put old at (length bytes) bytes (within refl) (omega arith)
torn_done old at bytes false within = torn_same old at (length bytes)

-- an image is no shorter than what is read, while writes are yet to be done
no_shorter : (bytes image written : List ℕ) (at : ℕ) (failed done : Bool) → done ≡ true → at ≤ length bytes → length bytes ≤ length image
    → length (put bytes at (reaching failed written)) ≤ length (cond done (put image at written) image)
no_shorter bytes image written at failed true is within longer =
    let inside : at ≤ length image = omega arith in
    omega (arith, length-put bytes at (reaching failed written) within, length-put image at written inside, length-reaching failed written)
no_shorter bytes image written at failed false is within longer = cc

pub kept_as_image : (calls : List DiskCall) (bytes image : List ℕ) (keep left : ℕ) (images : List ℕ → Type 0) → images image
    → (1 ≤ left → length bytes ≤ length image) → all_within bytes calls ≡ true
    → images_after bytes images calls (kept_after bytes image keep left calls)
kept_as_image [] bytes image keep left images known longer within = known
kept_as_image (Len failed ∷ calls) bytes image keep left images known longer within = kept_as_image calls bytes image keep left images known longer within
kept_as_image (Read at many failed ∷ calls) bytes image keep left images known longer within = kept_as_image calls bytes image keep left images known longer within
kept_as_image (Write at written failed ∷ calls) bytes image keep left images known longer within =
    let parts = both_of (nat_le at (length bytes)) (all_within (put bytes at (reaching failed written.items)) calls) within in
    let begins : at ≤ length bytes = leb-true at (length bytes) parts.0 in
    kept_as_image calls (put bytes at (reaching failed written.items)) (cond (nat_le 1 left) (put image at written.items) image) keep (left - 1)
    (λ later. (earlier : List ℕ) × images earlier × Torn at (length written.items) earlier later)
    (image, known, torn_done image at written.items (nat_le 1 left) (λ some. let more : length bytes ≤ length image = longer (leb-true 1 left some) in omega arith))
    (λ more. no_shorter bytes image written.items at failed (nat_le 1 left) (le-leb 1 left (omega arith)) begins (longer (omega arith)))
    parts.1
kept_as_image (Sync false ∷ calls) bytes image keep left images known longer within =
    kept_as_image calls bytes bytes keep keep (λ later. later ≡ bytes) refl (λ some. omega arith) within
kept_as_image (Sync true ∷ calls) bytes image keep left images known longer within = kept_as_image calls bytes image keep left images known longer within

-- the first of some calls begin within the bytes too
all_within-take : (n : ℕ) (calls : List DiskCall) (bytes : List ℕ) → all_within bytes calls ≡ true → all_within bytes (take n calls) ≡ true
all_within-take zero calls bytes within = refl
all_within-take (suc n) [] bytes within = refl
all_within-take (suc n) (Len failed ∷ calls) bytes within = all_within-take n calls bytes within
all_within-take (suc n) (Read at many failed ∷ calls) bytes within = all_within-take n calls bytes within
all_within-take (suc n) (Write at written failed ∷ calls) bytes within =
    let parts = both_of (nat_le at (length bytes)) (all_within (put bytes at (reaching failed written.items)) calls) within in
    both_true parts.0 (all_within-take n calls (put bytes at (reaching failed written.items)) parts.1)
all_within-take (suc n) (Sync failed ∷ calls) bytes within = all_within-take n calls bytes within

pub possible : (image first : List ℕ) (calls : List DiskCall) (n keep : ℕ) → all_within first calls ≡ true
    → image ≡ image_of_writes first keep (take n calls) → IsImage first (take n calls) image
possible image first calls n keep within same =
    rw same (kept_as_image (take n calls) first first keep keep (λ earlier. earlier ≡ first) refl (λ some. omega arith) (all_within-take n calls first within))

-- the same for an answer, where it gives one
pub answer_possible : {E : Type 0} (answer : Result (Vec ℕ Global) E) (first : List ℕ) (calls : List DiskCall) (n keep : ℕ) → all_within first calls ≡ true
    → IfOk answer (λ image. image.items ≡ image_of_writes first keep (take n calls)) → IfOk answer (λ image. IsImage first (take n calls) image.items)
answer_possible (Ok image) first calls n keep within same = possible image.items first calls n keep within same
answer_possible (Err fault) first calls n keep within same = cc
