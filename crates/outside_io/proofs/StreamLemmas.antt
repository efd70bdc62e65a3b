-- A prefix of the bytes was written, and then a prefix of the rest.
use Rattle.std.proofs.Common.{◌≡◌, ℕ, ◌+◌, ◌-◌, ◌<◌, ◌≤◌, Option, None, Some, IfSome, List, [], ◌++◌, length, length-drop, take, drop, min, append_assoc, append-nil, length-append, arith, ap, ◌∙◌, sym}
use Rattle.std.specs.Io.KnownBytes.{Appends, Consumes, Keeps}
use Rattle.outside_io.specs.Streams.{GivesFront}
use Rattle.std.proofs.lemmas.List.{take-append-drop, drop-drop, drop_all, take_rest, length-take-le}
use Rattle.std.proofs.Math.Seq.{take-add}

pub appends_more : (before mid after : Option (List ℕ)) (bytes : List ℕ) (k n : ℕ)
    → Appends before mid (take k bytes) → Appends mid after (take n (drop k bytes)) → Appends before after (take (k + n) bytes)
appends_more None mid after bytes k n first more = tt
appends_more (Some xs) None after bytes k n first more = absurd first
appends_more (Some xs) (Some ys) None bytes k n first more = absurd more
appends_more (Some xs) (Some ys) (Some zs) bytes k n first more =
    more ∙ ap (λ w. w ++ take n (drop k bytes)) first ∙ append_assoc xs (take k bytes) (take n (drop k bytes))
    ∙ ap (λ w. xs ++ w) (sym (take-add k n bytes))

-- The bytes from a place on are the prefix that was copied, and the rest.
pub front_and_rest : (bytes copied : List ℕ) (at n : ℕ) → take n copied ≡ take n (drop at bytes) → drop at bytes ≡ take n copied ++ drop (at + n) bytes
front_and_rest bytes copied at n same =
    sym (take-append-drop n (drop at bytes)) ∙ ap (λ w. w ++ drop n (drop at bytes)) (sym same) ∙ ap (λ w. take n copied ++ w) (drop-drop n at bytes)

-- If nothing could be copied into a buffer that isn't empty, nothing is left.
pub none_left : (bytes : List ℕ) (at n room : ℕ) → n ≡ min (length (drop at bytes)) room → n ≡ 0 → 0 < room → drop (at + n) bytes ≡ []
none_left bytes at n room many none some = drop_all (at + n) bytes (omega (arith, length-drop at bytes))

-- A read that copied as many as there are and fit from a place on.
pub read_front : (bytes held copied : List ℕ) (at n : ℕ) → held ≡ bytes
    → n ≡ min (length (take (length held - at) (drop at held))) (length copied)
    → take n copied ≡ take n (take (length held - at) (drop at held))
    → (drop at bytes ≡ take n copied ++ drop (at + n) bytes) × (n ≡ 0 → 0 < length copied → drop (at + n) bytes ≡ [])
read_front bytes held copied at n same many front =
    let many' = rw (take_rest held at, same) at many in
    let front' = rw (take_rest held at, same) at front in
    (front_and_rest bytes copied at n front', λ none some. none_left bytes at n (length copied) many' none some)

-- What was given before a read that copied a prefix of the rest from a place on, and after it.
pub given_front : (bytes held copied : List ℕ) (at n : ℕ) → held ≡ bytes → take n copied ≡ take n (take (length held - at) (drop at held))
    → take (at + n) bytes ≡ take at bytes ++ take n copied
given_front bytes held copied at n same front =
    let front' = rw (take_rest held at, same) at front in
    take-add at n bytes ∙ ap (λ w. take at bytes ++ w) (sym front')

-- A prefix was read, and then a prefix of the rest.
pub consumes_more : (before mid after : Option (List ℕ)) (front more : List ℕ) → Consumes before mid front → Consumes mid after more → Consumes before after (front ++ more)
consumes_more None mid after front more first then = tt
consumes_more (Some xs) None after front more first then = absurd first
consumes_more (Some xs) (Some ys) None front more first then = absurd then
consumes_more (Some xs) (Some ys) (Some zs) front more first then = first ∙ ap (λ w. front ++ w) then ∙ sym (append_assoc front more zs)

-- What was given so far, and the bytes of one read more.
pub gives_more : (before mid after front more : List ℕ) → mid ≡ before ++ front → after ≡ mid ++ more → after ≡ before ++ (front ++ more)
gives_more before mid after front more first then = then ∙ ap (λ w. w ++ more) first ∙ append_assoc before front more

-- The last read gave nothing.
pub gives_none : (before mid after front piece : List ℕ) (n : ℕ) → n ≡ 0 → mid ≡ before ++ front → after ≡ mid ++ take n piece → after ≡ before ++ front
gives_none before mid after front piece n none first then =
    let same = rw none at then in same ∙ append-nil mid ∙ first

-- What was given is longer than a limit, if one read gave more than the limit allowed.
pub longer : (front piece : List ℕ) (n limit : ℕ) → n ≤ length piece → limit - length front < n → length front ≤ limit → limit < length (front ++ take n piece)
longer front piece n limit within many short = omega (arith, length-append front (take n piece), length-take-le n piece within)

-- What was left was longer than a limit, if a prefix of it is.
pub had_more : (before after : Option (List ℕ)) (front : List ℕ) (limit : ℕ) → Consumes before after front → limit < length front
    → IfSome before (λ told. limit < length told)
had_more None after front limit taken more = tt
had_more (Some xs) None front limit taken more = absurd taken
had_more (Some xs) (Some ys) front limit taken more = rw taken (omega (arith, more, length-append front ys))

-- What was given isn't empty, if one read gave something.
pub some_more : (front piece : List ℕ) (n : ℕ) → n ≤ length piece → (n ≡ 0 → ⊥) → 0 < length (front ++ take n piece)
some_more front piece n within some = omega (arith, some, length-append front (take n piece), length-take-le n piece within)

module _ (given_before given_mid given_after : List ℕ) (left_before left_mid left_after : Option (List ℕ)) (front more : List ℕ) where
  pub front_more : given_mid ≡ given_before ++ front → given_after ≡ given_mid ++ more → Consumes left_before left_mid front → Consumes left_mid left_after more
      → GivesFront given_before given_after left_before left_after
  front_more first then taken off = record {
    front = front ++ more;
    given = gives_more given_before given_mid given_after front more first then;
    left = consumes_more left_before left_mid left_after front more taken off;
  }

-- A read that failed took nothing.
pub consumes_still : (before mid after : Option (List ℕ)) (front : List ℕ) → Consumes before mid front → Keeps mid after → Consumes before after front
consumes_still None mid after front first stays = tt
consumes_still (Some xs) None after front first stays = absurd first
consumes_still (Some xs) (Some ys) None front first stays = absurd stays
consumes_still (Some xs) (Some ys) (Some zs) front first stays = rw stays first
