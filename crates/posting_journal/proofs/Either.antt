-- Each file opens to bodies, or shows why it doesn't
use Rattle.posting_journal.proofs.Names.{◌≡◌, ◌≢◌, ◌⊎◌, inl, inr, ⊎_elim, ℕ, zero, suc, ◌+◌, ◌<◌, ◌≤◌, List, [], length, refl, sym, ◌∙◌, subst, arith, bytes_eq, true≢false, cases_Bool, cases_lt, IsBadAt, IsForeign, IsUnfinished, OpensToBodies, IsMade, gate_place, header}
use Rattle.std.specs.Prelude.{take, drop, slice_index}
use Rattle.std.proofs.lemmas.Bool.Decides.{eqb_tells}
use Rattle.std.proofs.lemmas.Slice.Eq.{bytes_eq-Decides}
use Rattle.posting_journal.proofs.Opened.{counted}

-- a byte is this one, or it isn't
is_byte : (byte wanted : ℕ) → (byte ≡ wanted) ⊎ (byte ≢ wanted)
is_byte byte wanted = elim (eqb_tells byte wanted) [
  | inl same ↦ inl same.1
  | inr other ↦ inr other.1
]

is_header : (bytes : List ℕ) → (take 16 (drop 1 bytes) ≡ header) ⊎ (take 16 (drop 1 bytes) ≢ header)
is_header bytes = elim (cases_Bool (bytes_eq (take 16 (drop 1 bytes)) header)) [
  | inl same ↦ inl ((bytes_eq-Decides (take 16 (drop 1 bytes)) header).0 same)
  | inr other ↦ inr (λ same. true≢false (sym ((bytes_eq-Decides (take 16 (drop 1 bytes)) header).1 same) ∙ other))
]

-- ---- creations

-- a file of 18 bytes, the first of which is neither 0 nor 1
nearly : (bytes : List ℕ) → length bytes ≡ 18 → slice_index bytes 0 ≢ 0 → slice_index bytes 0 ≢ 1 → IsUnfinished bytes ⊎ (IsUnfinished bytes → ⊥)
nearly bytes long not_begun not_made = elim (is_header bytes) [
  | inr other ↦ inr (λ is. elim is [
    | inl short ↦ omega (arith, long, short)
    | inr (inl begun) ↦ not_begun begun.1
    | inr (inr near) ↦ other near.1
  ])
  | inl same ↦ elim (is_byte (slice_index bytes 17) 1) [
    | inl opened ↦ inr (λ is. elim is [
      | inl short ↦ omega (arith, long, short)
      | inr (inl begun) ↦ not_begun begun.1
      | inr (inr near) ↦ near.2 opened
    ])
    | inr closed ↦ inl (inr (inr (long, same, closed, not_made)))
  ]
]

-- a file of more than one byte, the first of which isn't 0
not_begun_yet : (bytes : List ℕ) → 1 < length bytes → slice_index bytes 0 ≢ 0 → IsUnfinished bytes ⊎ (IsUnfinished bytes → ⊥)
not_begun_yet bytes some not_begun = elim (eqb_tells (length bytes) 18) [
  | inr other ↦ inr (λ is. elim is [
    | inl short ↦ omega (arith, some, short)
    | inr (inl begun) ↦ not_begun begun.1
    | inr (inr near) ↦ other.1 near.0
  ])
  | inl long ↦ elim (is_byte (slice_index bytes 0) 1) [
    | inl made ↦ inr (λ is. elim is [
      | inl short ↦ omega (arith, some, short)
      | inr (inl begun) ↦ not_begun begun.1
      | inr (inr near) ↦ near.3 made
    ])
    | inr not_made ↦ nearly bytes long.1 not_begun not_made
  ]
]

unfinished : (bytes : List ℕ) → IsUnfinished bytes ⊎ (IsUnfinished bytes → ⊥)
unfinished bytes = elim (cases_lt 1 (length bytes)) [
  | inr short ↦ inl (inl short)
  | inl some ↦ elim (is_byte (slice_index bytes 0) 0) [
    | inr not_begun ↦ not_begun_yet bytes some not_begun
    | inl begun ↦ elim (cases_lt 18 (length bytes)) [
      | inr short ↦ inl (inr (inl (short, begun)))
      | inl long ↦ inr (λ is. elim is [
        | inl short ↦ omega (arith, some, short)
        | inr (inl is_begun) ↦ (let short = is_begun.0 in omega (arith, long, short))
        | inr (inr near) ↦ (let short = near.0 in omega (arith, long, short))
      ])
    ]
  ]
]

-- ---- records

-- what a file shows that isn't an unfinished creation
abbrev Shows : List ℕ → Type 0
Shows bytes = ((bodies : List (List ℕ)) × OpensToBodies bytes bodies) ⊎ IsForeign bytes ⊎ ((n : ℕ) × IsBadAt bytes n)

module _ (bytes : List ℕ) (made : IsMade bytes) where
  -- the gates up to that of record n are open
  upto : (n : ℕ) → slice_index bytes (gate_place n) ≡ 1 → ((k : ℕ) → k < n → slice_index bytes (gate_place k) ≡ 1)
      → (k : ℕ) → k ≤ n → slice_index bytes (gate_place k) ≡ 1
  upto n opened gates k low = elim (cases_lt k n) [
    | inl before ↦ gates k before
    | inr last ↦ (let same : n ≡ k = omega (arith, low, last) in subst (λ (m : ℕ). slice_index bytes (gate_place m) ≡ 1) same opened)
  ]

  -- record n, if those before it are open and valid; it counts if its gate is open and it is whole
  record_at : (n : ℕ) → n ≤ 4000000 → gate_place n < length bytes
      → ((k : ℕ) → k < n → slice_index bytes (gate_place k) ≡ 1)
      → (slice_index bytes (gate_place n) ≡ 1 → gate_place (n + 1) < length bytes → Shows bytes) → Shows bytes
  record_at n most there gates go_on = elim (is_byte (slice_index bytes (gate_place n)) 1) [
    | inr closed ↦
        let c = counted bytes n made most (record { gates = gates; end = (there, closed) }) in
        inl (c.bodies, inl c.journal)
    | inl opened ↦ elim (cases_lt (gate_place (n + 1)) (length bytes)) [
      | inr cut ↦ inr (inr (n, record { made = made; gates = upto n opened gates; long = there; few = most; here = inl cut }))
      | inl more ↦ go_on opened more
    ]
  ]

  -- so many more records there may be
  scan : (left n : ℕ) → n + left ≡ 4000000 → gate_place n < length bytes
      → ((k : ℕ) → k < n → slice_index bytes (gate_place k) ≡ 1) → Shows bytes
  scan zero n all there gates = record_at n (omega (arith, all)) there gates (λ opened more. inr (inr (
    n,
    record {
      made = made;
      gates = upto n opened gates;
      long = there;
      few = omega (arith, all);
      here = inr (omega (arith, all));
    },
  )))
  scan (suc left) n all there gates = record_at n (omega (arith, all)) there gates (λ opened more.
      scan left (n + 1) (omega (arith, all)) more (λ k low. upto n opened gates k (omega (arith, low))))

pub bodies_or_shown : (bytes : List ℕ) → ((bodies : List (List ℕ)) × OpensToBodies bytes bodies) ⊎ IsForeign bytes ⊎ ((n : ℕ) × IsBadAt bytes n)
bodies_or_shown bytes = elim (unfinished bytes) [
  | inl creation ↦ inl ([], inr (refl, creation))
  | inr finished ↦ elim (cases_lt (length bytes) 18) [
    | inl short ↦ inr (inl (record { finished = finished; other = inl short }))
    | inr long ↦ elim (is_byte (slice_index bytes 0) 1) [
      | inr closed ↦ inr (inl (record { finished = finished; other = inr (inl closed) }))
      | inl made ↦ elim (is_header bytes) [
        | inr other ↦ inr (inl (record { finished = finished; other = inr (inr other) }))
        | inl same ↦ scan bytes (record { finished = made; header = same }) 4000000 0 refl (omega (arith, long))
            (λ k low. absurd (omega (arith, low)))
      ]
    ]
  ]
]
