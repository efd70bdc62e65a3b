-- The parts of a pin's policies, and the reads of them
use Rattle.snapshot_value.proofs.Names.{◌≡◌, ℕ, suc, zero, ◌+◌, ◌*◌, ◌≤◌, ◌<◌, List, [], ◌∷◌, ◌++◌, length, take, drop, sym, ap, ◌∙◌, arith, AllByRecursion, range_with_len, length-map, take_all, take_more, take-append-drop, all_back, all_front, policies_per_read, reads_of, reads_needed}
use Rattle.std.proofs.lemmas.List.FromFn.{get_or-map-range_with_len, length-range_with_len}
use Rattle.policy_types.specs.declared.entry.Call.TheVariants.{Read}

-- the items of a part
pub all_part : {X : Type 0} (P : X → Type 0) (m n : ℕ) (xs : List X) → AllByRecursion P xs → AllByRecursion P (take n (drop m xs))
all_part P m n xs all =
    all_front P (take n (drop m xs)) (drop n (drop m xs)) (rw take-append-drop
    (all_back P (take m xs) (drop m xs) (rw take-append-drop all)))

take_parts : {X : Type 0} (m n : ℕ) (xs : List X) → take (m + n) xs ≡ take m xs ++ take n (drop m xs)
take_parts zero n xs = ap (λ k. take k xs) (omega arith)
take_parts (suc m) n [] = take_all (suc m + n) [] (omega arith) ∙ sym (take_all n [] (omega arith))
take_parts (suc m) n (x ∷ xs) =
    let more : suc m + n ≡ suc (m + n) = omega arith in
    ap (λ k. take k (x ∷ xs)) more ∙ ap (λ rest. x ∷ rest) (take_parts m n xs)

-- the first k parts, and the next
pub next_part : {X : Type 0} (k : ℕ) (xs : List X)
    → take (policies_per_read * (k + 1)) xs ≡ take (policies_per_read * k) xs ++ take policies_per_read (drop (policies_per_read * k) xs)
next_part k xs = ap (λ n. take n xs) (omega arith) ∙ take_parts (policies_per_read * k) policies_per_read xs

pub length-reads_of : (pin policies : ℕ) → length (reads_of pin policies) ≡ reads_needed policies
length-reads_of pin policies =
    length-map (range_with_len 0 (reads_needed policies)) (λ k. Read pin (policies_per_read * k)) ∙ length-range_with_len 0 (reads_needed policies)

pub next_read : (pin policies k : ℕ) → k < reads_needed policies
    → take (k + 1) (reads_of pin policies) ≡ take k (reads_of pin policies) ++ Read pin (policies_per_read * k) ∷ []
next_read pin policies k low =
    let here : k < length (reads_of pin policies) = omega (arith, low, length-reads_of pin policies) in
    take_more (reads_of pin policies) k (Read pin 0) here
    ∙ ap (λ call. take k (reads_of pin policies) ++ call ∷ [])
    (get_or-map-range_with_len (λ n. Read pin (policies_per_read * n)) 0 (reads_needed policies) k k (Read pin 0) low (omega arith))

-- a read within the policies
pub starts_within : (policies k : ℕ) → k < reads_needed policies → policies_per_read * k ≤ policies
starts_within policies k low = omega (arith, low)
