-- What the values of a command line mean. Numbers are decimal digits without a sign and without leading zeros.
use Rattle.std.specs.Prelude.{◌≡◌, ℕ, ◌≤◌, List, [], ◌∷◌, codes, decimal, Option, Some, None}
use Rattle.std.specs.Int.{IsInRange}
use Rattle.life_args.specs.Names.{At, Now, Position, Measure, Terminal, Mean, Deficiency}
use Rattle.basis_book.specs.Name.{IsName}

-- a position from 0 to 4000000; the end of the journal if none is given
abbrev pub IsPositionOr : Option (List ℕ) → At → Type 0
IsPositionOr None position = position ≡ Now
IsPositionOr (Some value) Now = ⊥
IsPositionOr (Some value) (Position n) = (n ≤ 4000000) × (value ≡ decimal n)

-- a number of workers from 1 to 64; 1 if none is given
abbrev pub AreWorkersOr : Option (List ℕ) → ℕ → Type 0
AreWorkersOr None workers = workers ≡ 1
AreWorkersOr (Some value) workers = (1 ≤ workers) × (workers ≤ 64) × (value ≡ decimal workers)

-- the name of a basis file; `basis.csv` if none is given
abbrev pub IsBasisOr : Option (List ℕ) → List ℕ → Type 0
IsBasisOr None name = name ≡ codes "basis.csv"
IsBasisOr (Some value) name = IsName value × (name ≡ value)

-- the reserve that is asked for, by the uses of `--mean` and those of `--deficiency`: at most one flag, and only once
abbrev pub IsMeasureBy : List (List ℕ) → List (List ℕ) → Measure → Type 0
IsMeasureBy [] [] measure = measure ≡ Terminal
IsMeasureBy (use_of_mean ∷ []) [] measure = measure ≡ Mean
IsMeasureBy [] (use_of_deficiency ∷ []) measure = measure ≡ Deficiency
IsMeasureBy means deficiencies measure = ⊥

-- a policy's number, or none
abbrev pub IsPolicyOr : Option (List ℕ) → Option ℕ → Type 0
IsPolicyOr None id = id ≡ None
IsPolicyOr (Some value) None = ⊥
IsPolicyOr (Some value) (Some id) = IsInRange 1 4294967295 id × (value ≡ decimal id)
