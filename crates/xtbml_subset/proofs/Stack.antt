-- The stack of names of the elements that are open.
use Rattle.xtbml_subset.proofs.Names.{ltb, Option, Some, None, Bool, true, false, ◌≡◌, ℕ, zero, suc, ◌+◌, ◌<◌, ◌≤◌, ◌≢◌, List, [], ◌∷◌, length, get_or, map, refl, ap, ◌∙◌, arith, ltb-true, ltb-false, get_or-set_same, get_or-set_other, map-set, length-map, MatchBool, Phase, Tag, start, whole, State, after_names, names_of}
use Rattle.std.proofs.Math.ListN.{set}
use Rattle.std.proofs.Math.Numerals.{add-one}
use Rattle.std.specs.Borrow.{Bor}

names_of-set : (depth : ℕ) (names : List (List ℕ)) (i : ℕ) (name : List ℕ) → depth ≤ i → names_of depth (set names i name) ≡ names_of depth names
names_of-set zero names i name le = refl
names_of-set (suc depth) names i name le =
    let ne : depth ≢ i = omega arith in
    let first : get_or (set names i name) depth [] ≡ get_or names depth [] = get_or-set_other names i depth name [] ne in
    let rest : names_of depth (set names i name) ≡ names_of depth names = names_of-set depth names i name (omega arith) in
    cc

abbrev pub texts : List (Bor (List ℕ)) → List (List ℕ)
texts names = map (λ name. name.now) names

pub names_pushed : (names : List (Bor (List ℕ))) (depth : ℕ) (name : Bor (List ℕ)) → depth < length names
    → names_of (depth + 1) (texts (set names depth name)) ≡ name.now ∷ names_of depth (texts names)
names_pushed names depth name lt =
    let written : texts (set names depth name) ≡ set (texts names) depth name.now = map-set (λ (x : Bor (List ℕ)). x.now) names depth name in
    let room : depth < length (texts names) = omega (arith, length-map names (λ (x : Bor (List ℕ)). x.now)) in
    let first : get_or (set (texts names) depth name.now) depth [] ≡ name.now = get_or-set_same (texts names) depth name.now [] room in
    let rest : names_of depth (set (texts names) depth name.now) ≡ names_of depth (texts names) = names_of-set depth (texts names) depth name.now (omega arith) in
    rw (add-one, written, first, rest) refl

pub length-names_of : (depth : ℕ) (names : List (List ℕ)) → length (names_of depth names) ≡ depth
length-names_of zero names = refl
length-names_of (suc depth) names = ap suc (length-names_of depth names)

by_test : (b : Bool) (P Q : Type 0) → (b ≡ true → P) → (b ≡ false → Q) → MatchBool b P Q
by_test true P Q p q = p refl
by_test false P Q p q = q refl

pub room_test : (depth : ℕ) → MatchBool (ltb depth 64) (depth < 64) (64 ≤ depth)
room_test depth = by_test (ltb depth 64) (depth < 64) (64 ≤ depth) (ltb-true depth 64) (ltb-false depth 64)

abbrev pub whole_after : Phase → ℕ → List (List ℕ) → Tag → Option State
whole_after phase depth names tag = after_names phase (names_of depth names) (whole tag)

abbrev pub start_after : Phase → ℕ → List (List ℕ) → Tag → Option State
start_after phase depth names tag = after_names phase (names_of depth names) (start tag)

pub whole_in : (phase : Phase) (depth : ℕ) (names : List (List ℕ)) (tag : Tag) → 0 < depth
    → MatchBool (ltb depth 64) (whole_after phase depth names tag ≡ Some (record { phase = phase; names = names_of depth names })) (whole_after phase depth names tag ≡ None)
whole_in phase zero names tag lt = absurd (omega arith)
whole_in phase (suc depth) names tag lt =
    let len : length (names_of (suc depth) names) ≡ suc depth = length-names_of (suc depth) names in
    by_test (ltb (suc depth) 64) (whole_after phase (suc depth) names tag ≡ Some (record { phase = phase; names = names_of (suc depth) names })) (whole_after phase (suc depth) names tag ≡ None)
    (λ e. let t : ltb (length (names_of (suc depth) names)) 64 ≡ true = ap (λ n. ltb n 64) len ∙ e in rw t refl)
    (λ e. let t : ltb (length (names_of (suc depth) names)) 64 ≡ false = ap (λ n. ltb n 64) len ∙ e in rw t refl)

pub start_in : (phase : Phase) (depth : ℕ) (names : List (List ℕ)) (tag : Tag) → 0 < depth
    → MatchBool (ltb depth 64) (start_after phase depth names tag ≡ Some (record { phase = phase; names = tag.name ∷ names_of depth names })) (start_after phase depth names tag ≡ None)
start_in phase zero names tag lt = absurd (omega arith)
start_in phase (suc depth) names tag lt =
    let len : length (names_of (suc depth) names) ≡ suc depth = length-names_of (suc depth) names in
    by_test (ltb (suc depth) 64) (start_after phase (suc depth) names tag ≡ Some (record { phase = phase; names = tag.name ∷ names_of (suc depth) names })) (start_after phase (suc depth) names tag ≡ None)
    (λ e. let t : ltb (length (names_of (suc depth) names)) 64 ≡ true = ap (λ n. ltb n 64) len ∙ e in rw t refl)
    (λ e. let t : ltb (length (names_of (suc depth) names)) 64 ≡ false = ap (λ n. ltb n 64) len ∙ e in rw t refl)
