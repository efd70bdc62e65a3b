-- The entries of a whole history are on the pages of its callers, each on one page: so the turns on all pages are
-- those of the history.
use Rattle.std.proofs.Common.{◌≡◌, ℕ, zero, suc, ◌+◌, ◌<◌, Bool, true, false, cond, eqb, List, [], ◌∷◌, length, sum_by, count_by, map, slice_index_or, sym, refl, ap, ◌∙◌, subst, arith, ne_eqb, eq-eqb}
use Rattle.std.specs.List.{AllByRecursion, Contains, IsDistinct}
use Rattle.std.proofs.lemmas.Bool.{false≢true}
use Rattle.std.proofs.lemmas.List.Sums.{sum_by-cons}
use Rattle.policy_types.specs.declared.entry.Entry.{Entry}
use Rattle.turn_lock.specs.History.{entries_of}
use Rattle.turn_lock.specs.Passes.{Holding, Page, PassFacts, OwnsAll, pages}
use Rattle.measure.specs.Turns.{turns_known, counted_of}

abbrev numbers : List Page → List ℕ
numbers ps = map (λ page. page.0) ps

module _ {X : Type 0} where
  sum_zero : (f : X → ℕ) (xs : List X) → AllByRecursion (λ x. f x ≡ 0) xs → sum_by f xs ≡ 0
  sum_zero f [] a = refl
  sum_zero f (x ∷ xs) a = let rest = sum_zero f xs a.1 in let here = a.0 in omega (arith, sum_by-cons f x xs)

  sum_same : (f g : X → ℕ) (xs : List X) → AllByRecursion (λ x. f x ≡ g x) xs → sum_by f xs ≡ sum_by g xs
  sum_same f g [] a = refl
  sum_same f g (x ∷ xs) a = let rest = sum_same f g xs a.1 in let here = a.0 in omega (arith, sum_by-cons f x xs, sum_by-cons g x xs)

  sum_both : (f g h : X → ℕ) (xs : List X) → ((x : X) → f x ≡ g x + h x) → sum_by f xs ≡ sum_by g xs + sum_by h xs
  sum_both f g h [] e = refl
  sum_both f g h (x ∷ xs) e = let rest = sum_both f g h xs e in omega (arith, e x, sum_by-cons f x xs, sum_by-cons g x xs, sum_by-cons h x xs)

  all_of : (P : X → Type 0) (xs : List X) → ((x : X) → P x) → AllByRecursion P xs
  all_of P [] f = tt
  all_of P (x ∷ xs) f = (f x, all_of P xs f)

  all_map : {Y : Type 0} (P : Y → Type 0) (f : X → Y) (xs : List X) → AllByRecursion P (map f xs) → AllByRecursion (λ x. P (f x)) xs
  all_map P f [] a = tt
  all_map P f (x ∷ xs) a = (a.0, all_map P f xs a.1)

  all_at : (P : X → Type 0) (xs : List X) (k : ℕ) (x : X) → AllByRecursion P xs → k < length xs → slice_index_or xs k x ≡ x → P x
  all_at P [] k x a l e = absurd (omega arith)
  all_at P (y ∷ ys) zero x a l e = subst P e a.0
  all_at P (y ∷ ys) (suc k) x a l e = all_at P ys k x a.1 (omega arith) e

  all_then : (P Q : X → Type 0) (xs : List X) → ((x : X) → P x → Q x) → AllByRecursion P xs → AllByRecursion Q xs
  all_then P Q [] f a = tt
  all_then P Q (x ∷ xs) f a = (f x a.0, all_then P Q xs f a.1)

flip : (a b : ℕ) → eqb a b ≡ false → eqb b a ≡ false
flip a b off = ne_eqb b a (λ e. false≢true (sym off ∙ eq-eqb a b (sym e)))

-- a measure of lists of entries that adds up over the entries
module _ (F : List Entry → ℕ) (w : Entry → ℕ) (none : F [] ≡ 0) (more : (e : Entry) (es : List Entry) → F (e ∷ es) ≡ w e + F es) where
  -- what one entry adds on a page
  abbrev share : Entry → Page → ℕ
  share e page = cond (eqb e.caller page.0) (w e) 0

  share_off : (e : Entry) (page : Page) → eqb e.caller page.0 ≡ false → share e page ≡ 0
  share_off e page off = ap (λ b. cond b (w e) 0) off

  share_on : (e : Entry) (page : Page) → page.0 ≡ e.caller → share e page ≡ w e
  share_on e page on = ap (λ b. cond b (w e) 0) (eq-eqb e.caller page.0 (sym on))

  nobody : (e : Entry) (ps : List Page) → AllByRecursion (λ n. eqb e.caller n ≡ false) (numbers ps) → sum_by (share e) ps ≡ 0
  nobody e ps a = sum_zero (share e) ps (all_then (λ p. eqb e.caller p.0 ≡ false) (λ p. share e p ≡ 0) ps (share_off e) (all_map (λ n. eqb e.caller n ≡ false) (λ (p : Page). p.0) ps a))

  -- an entry adds to only one page
  once : (e : Entry) (ps : List Page) → IsDistinct eqb (numbers ps) → (k : ℕ) → k < length (numbers ps) → slice_index_or (numbers ps) k e.caller ≡ e.caller → sum_by (share e) ps ≡ w e
  unfolding IsDistinct
  once e [] d k l is = absurd (omega arith)
  once e (p ∷ ps) d zero l is =
      let others : AllByRecursion (λ n. eqb e.caller n ≡ false) (numbers ps) = subst (λ c. AllByRecursion (λ n. eqb c n ≡ false) (numbers ps)) is d.0 in
      let rest = nobody e ps others in
      let here = share_on e p is in
      omega (arith, sum_by-cons (share e) p ps)
  once e (p ∷ ps) d (suc k) l is =
      let rest = once e ps d.1 k (omega arith) is in
      let off = flip p.0 e.caller (all_at (λ n. eqb p.0 n ≡ false) (numbers ps) k e.caller d.0 (omega arith) is) in
      let here = share_off e p off in
      omega (arith, sum_by-cons (share e) p ps)

  one_more : (b : Bool) (e : Entry) (es : List Entry) → F (cond b (e ∷ es) es) ≡ cond b (w e) 0 + F es
  one_more true e es = more e es
  one_more false e es = omega arith

  -- all entries are on the pages of their callers
  spread : (es : List Entry) (ps : List Page) → IsDistinct eqb (numbers ps) → AllByRecursion (λ e. Contains (numbers ps) e.caller) es → F es ≡ sum_by (λ (p : Page). F (entries_of es p.0)) ps
  spread [] ps d a = none ∙ sym (sum_zero (λ (p : Page). F []) ps (all_of (λ (p : Page). F [] ≡ 0) ps (λ p. none)))
  spread (e ∷ es) ps d a =
      let rest = spread es ps d a.1 in
      let one = once e ps d a.0.0 a.0.1 a.0.2 in
      let both = sum_both (λ (p : Page). F (entries_of (e ∷ es) p.0)) (share e) (λ (p : Page). F (entries_of es p.0)) ps (λ p. one_more (eqb e.caller p.0) e (entries_of es p.0)) in
      omega (arith, more e es)

  whole : {O : Type 0} (legal : O → List Entry → Type 0) (pass : Holding O) → PassFacts legal pass → OwnsAll pass → F pass.seen ≡ sum_by (λ (p : Page). F p.1) (pages pass)
  whole legal pass facts owns =
      let all = spread pass.seen (pages pass) facts.apart owns in
      let same = sum_same (λ (p : Page). F (entries_of pass.seen p.0)) (λ (p : Page). F p.1) (pages pass)
      (all_then (λ (p : Page). entries_of pass.seen p.0 ≡ p.1) (λ (p : Page). F (entries_of pass.seen p.0) ≡ F p.1) (pages pass) (λ p is. ap F is) facts.paged) in
      all ∙ same

-- the turns of a whole history are those of the pass that has seen it
pub all_turns : {O : Type 0} (legal : O → List Entry → Type 0) (pass : Holding O) → PassFacts legal pass → OwnsAll pass → length pass.seen ≡ turns_known pass
all_turns = whole length (λ e. 1) refl (λ e es. omega arith)

pub all_counted : {O : Type 0} (counts : Entry → Bool) (legal : O → List Entry → Type 0) (pass : Holding O) → PassFacts legal pass → OwnsAll pass → count_by counts pass.seen ≡ counted_of counts pass
all_counted counts = whole (count_by counts) (λ e. cond (counts e) 1 0) refl (sum_by-cons (λ e. cond (counts e) 1 0))
