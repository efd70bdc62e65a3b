-- Items read one after the other, and what is read as one thing only.
use Rattle.xtbml_subset.proofs.Names.{◌≡◌, suc, List, [], ◌∷◌, ◌++◌, length, Result, Ok, Err, refl, sym, ap, subst, ◌∙◌, append_assoc, append-nil, TableFault, Further, InTurn, ReadsAll}

-- values that were read, before those to come
abbrev pub behind : {B : Type 0} → List B → Result (List B) TableFault → Result (List B) TableFault
behind values (Ok more) = Ok (values ++ more)
behind values (Err fault) = Err fault

-- whatever the items to come are read as, all items are read as that after the values so far
abbrev pub AllSoFar : {S A B : Type 0} → (S → A → Result (S × B) TableFault → Type 0) → S → List A → List B → S → List A → Type 0
AllSoFar {S} {A} {B} One begin all values due items =
    (rest : Result (List B) TableFault) → ReadsAll One due items rest → ReadsAll One begin all (behind values rest)

behind_none : {B : Type 0} (read : Result (List B) TableFault) → behind [] read ≡ read
behind_none (Ok values) = refl
behind_none (Err fault) = refl

pub all_none : {S A B : Type 0} (One : S → A → Result (S × B) TableFault → Type 0) (begin : S) (all : List A) → AllSoFar One begin all [] begin all
all_none One begin all rest h = subst (ReadsAll One begin all) (sym (behind_none rest)) h

one_behind : {B : Type 0} (value : B) (rest : Result (List B) TableFault) → Further (λ values whole. whole ≡ Ok (value ∷ values)) rest (behind (value ∷ []) rest)
one_behind value (Ok more) = refl
one_behind value (Err fault) = refl

behind_more : {B : Type 0} (values : List B) (value : B) (rest : Result (List B) TableFault) → behind values (behind (value ∷ []) rest) ≡ behind (values ++ value ∷ []) rest
behind_more {B} values value (Ok more) = ap (λ (all : List B). Ok all) (sym (append_assoc values (value ∷ []) more))
behind_more values value (Err fault) = refl

pub all_more : {S A B : Type 0} (One : S → A → Result (S × B) TableFault → Type 0) (begin : S) (all : List A) (values : List B) (due : S) (item : A) (items : List A) (next : S) (value : B)
    → One due item (Ok (next, value)) → AllSoFar One begin all values due (item ∷ items) → AllSoFar One begin all (values ++ value ∷ []) next items
all_more One begin all values due item items next value is so_far rest h =
    let whole : ReadsAll One due (item ∷ items) (behind (value ∷ []) rest) = (Ok (next, value), is, (rest, h, one_behind value rest)) in
    subst (ReadsAll One begin all) (behind_more values value rest) (so_far (behind (value ∷ []) rest) whole)

pub all_fault : {S A B : Type 0} (One : S → A → Result (S × B) TableFault → Type 0) (begin : S) (all : List A) (values : List B) (due : S) (item : A) (items : List A) (fault : TableFault)
    → One due item (Err fault) → AllSoFar One begin all values due (item ∷ items) → ReadsAll One begin all (Err fault)
all_fault One begin all values due item items fault is so_far = so_far (Err fault) (Err fault, is, refl)

pub all_done : {S A B : Type 0} (One : S → A → Result (S × B) TableFault → Type 0) (begin : S) (all : List A) (values : List B) (due : S)
    → AllSoFar One begin all values due [] → ReadsAll One begin all (Ok values)
all_done {S} {A} {B} One begin all values due so_far = subst (λ (every : List B). ReadsAll One begin all (Ok every)) (append-nil values) (so_far (Ok []) refl)

-- ---- the first of the items

pub record IsFirstOf {S A B : Type 0} (One : S → A → Result (S × B) TableFault → Type 0) (due : S) (item : A) (items : List A) (values : List B) : Type 0 where
  pub next : S
  pub value : B
  pub more : List B
  pub read : One due item (Ok (next, value))
  pub others : ReadsAll One next items (Ok more)
  pub all : values ≡ value ∷ more

abbrev ok_list : {B : Type 0} → List B → Result (List B) TableFault
ok_list values = Ok values

pub ok_is_list : {B : Type 0} (x y : List B) → ok_list x ≡ ok_list y → x ≡ y
ok_is_list x y e = cc

pub first_of_all : {S A B : Type 0} (One : S → A → Result (S × B) TableFault → Type 0) (due : S) (item : A) (items : List A) (values : List B)
    → ReadsAll One due (item ∷ items) (Ok values) → IsFirstOf One due item items values
first_of_all {S} {A} {B} One due item items values h = at h.0 h.1 h.2
  where
    rest_at : (one : S × B) (rest : Result (List B) TableFault) → One due item (Ok (one.0, one.1)) → ReadsAll One one.0 items rest
        → Further (λ values whole. whole ≡ Ok (one.1 ∷ values)) rest (Ok values) → IsFirstOf One due item items values
    rest_at one (Ok more) read others e = record { next = one.0; value = one.1; more = more; read = read; others = others; all = ok_is_list values (one.1 ∷ more) e }
    rest_at one (Err fault) read others e = absurd cc

    at : (one : Result (S × B) TableFault) → One due item one
        → Further (λ one all. InTurn (λ rest. ReadsAll One one.0 items rest) (λ values whole. whole ≡ Ok (one.1 ∷ values)) all) one (Ok values)
        → IsFirstOf One due item items values
    at (Err fault) read e = absurd cc
    at (Ok one) read e = rest_at one e.0 read e.1 e.2

pub all_count : {S A B : Type 0} (One : S → A → Result (S × B) TableFault → Type 0) (items : List A) (due : S) (values : List B) → ReadsAll One due items (Ok values) → length items ≡ length values
all_count {S} {A} {B} One [] due values h = ap (λ (s : List B). length s) (sym (ok_is_list values [] h))
all_count {S} {A} {B} One (item ∷ items) due values h =
    let f = first_of_all One due item items values h in
    ap suc (all_count One items f.next f.more f.others) ∙ ap (λ (s : List B). length s) (sym f.all)

-- ---- what is read as one thing only

abbrev pub Single : {A : Type 0} → (Result A TableFault → Type 0) → Type 0
Single {A} Reads = (a b : Result A TableFault) → Reads a → Reads b → a ≡ b

further_single : {A B : Type 0} (Rest : A → Result B TableFault → Type 0) (one : Result A TableFault) (a b : Result B TableFault)
    → ((x : A) → Single (Rest x)) → Further Rest one a → Further Rest one b → a ≡ b
further_single Rest (Ok x) a b single h k = single x a b h k
further_single Rest (Err fault) a b single h k = h ∙ sym k

pub then_single : {A B : Type 0} (First : Result A TableFault → Type 0) (Rest : A → Result B TableFault → Type 0) → Single First → ((x : A) → Single (Rest x)) → Single (InTurn First Rest)
then_single {A} {B} First Rest one single a b h k =
    let same : h.0 ≡ k.0 = one h.0 k.0 h.1 k.1 in
    further_single Rest h.0 a b single h.2 (subst (λ (r : Result A TableFault). Further Rest r b) (sym same) k.2)

pub all_single : {S A B : Type 0} (One : S → A → Result (S × B) TableFault → Type 0) → ((due : S) (item : A) → Single (One due item))
    → (items : List A) (due : S) → Single (ReadsAll One due items)
all_single One one [] due a b h k = h ∙ sym k
all_single {S} {A} {B} One one (item ∷ items) due a b h k =
    then_single (One due item) (λ (first : S × B) all. InTurn (λ rest. ReadsAll One first.0 items rest) (λ values whole. whole ≡ Ok (first.1 ∷ values)) all) (one due item)
    (λ (first : S × B). then_single (λ rest. ReadsAll One first.0 items rest) (λ (values : List B) whole. whole ≡ Ok (first.1 ∷ values)) (all_single One one items first.0) (λ values x y p q. p ∙ sym q))
    a b h k
