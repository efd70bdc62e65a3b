-- What a write makes of a file, whole or cut short.
use Rattle.std.specs.Prelude.{◌≡◌, ℕ, ◌+◌, ◌-◌, ◌≤◌, max, List, ◌++◌, length, take, drop, refl}
use Rattle.std.proofs.Common.{arith, ap, ◌∙◌, append_assoc, length-append}
use Rattle.std.proofs.Math.Seq.{drop-append-add}
use Rattle.std.proofs.lemmas.List.{take_at, drop-drop, length-take-le, length-drop}
use Rattle.outside_io.specs.Disks.{put, Torn}

pub length-put : (old : List ℕ) (at : ℕ) (part : List ℕ) → at ≤ length old
    → length (put old at part) ≡ max (length old) (at + length part)
length-put old at part within =
    omega (
      arith,
      length-append (take at old ++ part) (drop (at + length part) old),
      length-append
          (take at old) part,
      length-take-le at old within,
      length-drop (at + length part) old,
    )

-- A part of a write, put where it belongs, is what a crash may leave of it.
pub torn_put : (old : List ℕ) (at many : ℕ) (part : List ℕ) → at ≤ length old → length part ≤ many
    → Torn at many old (put old at part)
torn_put old at many part within short =
    let rest = drop (at + length part) old in
    let room : ℕ = many - length part in
    let front : length (take at old) ≡ at = length-take-le at old within in
    let place : at + many ≡ length (take at old ++ part) + room = omega
    (arith, length-append (take at old) part) in
    record {
      before = ap (take at) (append_assoc (take at old) part rest) ∙ take_at (take at old)
          (part ++ rest) at front;
      after =
          ap (λ n. drop n (take at old ++ part ++ rest)) place
          ∙ drop-append-add (take at old ++ part) rest room
          ∙ drop-drop room (at + length part) old
          ∙ ap (λ n. drop n old) (omega arith);
      no_shorter = omega (arith, length-put old at part within);
      no_longer = omega (arith, length-put old at part within);
    }

pub torn_same : (old : List ℕ) (at many : ℕ) → Torn at many old old
torn_same old at many = record
    { before = refl; after = refl; no_shorter = omega arith; no_longer = omega arith }
