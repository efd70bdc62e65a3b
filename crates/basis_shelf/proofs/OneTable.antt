-- A file is there, absent or too long; it spells one table, or is bad in one way.
use Rattle.basis_shelf.proofs.Names.{◌≡◌, ℕ, ◌<◌, ◌⊎◌, inl, inr, List, length, Option, Some, None, Result, Ok, Err, IsSomeAnd, refl, sym, ap, ◌∙◌, subst, arith, AnyTable, TableKind, TableFault, any_parts_of, IsAnyAnswer, fault_at, whole_document, any_fault_only, any_due_by, BasisWord, IsAbsent, IsTooLong, IsFile, IsTableNamed, HasTable, IsNoTable, IsBadTable, word_of}
use Rattle.xtbml_subset.specs.declared.fault.TableKind.TheVariants as kind
use Rattle.xtbml_subset.specs.declared.fault.TableFault.TheVariants as table
use Rattle.xtbml_subset.specs.inside.Rows.{found_asks}
use Rattle.xtbml_subset.proofs.Matching.{finds_root}
use Rattle.xtbml_subset.proofs.SelectSingle.{any_single}
use Rattle.basis_shelf.specs.declared.fault.BasisWord.TheVariants.{Absent, TooLong, BadRow, NotRising, TooManyRows, NotDocument, NoTable, Scaled, BadAge, AgeGap, BadRate, BadDuration, NoUltimate, UltimateGap}

-- ---- a file

pub one_file : (files : List ℕ → Option (List ℕ)) (name a b : List ℕ) → IsFile files name a → IsFile files name b → a ≡ b
one_file files name a b h k = let same : Some a ≡ Some b = sym h.0 ∙ k.0 in cc

pub not_absent : (files : List ℕ → Option (List ℕ)) (name a : List ℕ) → IsFile files name a → IsAbsent files name → ⊥
not_absent files name a h k = absurd (let no : Some a ≡ None = sym h.0 ∙ k in cc)

pub not_too_long : (files : List ℕ → Option (List ℕ)) (name a : List ℕ) → IsFile files name a → IsTooLong files name → ⊥
not_too_long files name a h k =
    let long : 4194304 < length a = subst (λ (o : Option (List ℕ)). IsSomeAnd o (λ bytes. 4194304 < length bytes)) h.0 k in
    omega (arith, h.1)

pub not_both : (files : List ℕ → Option (List ℕ)) (name : List ℕ) → IsAbsent files name → IsTooLong files name → ⊥
not_both files name h k = subst (λ (o : Option (List ℕ)). IsSomeAnd o (λ bytes. 4194304 < length bytes)) h k

-- ---- the bytes of a table

one_by : (bytes : List ℕ) (a b : Result AnyTable TableFault) → IsAnyAnswer bytes a → IsAnyAnswer bytes b → (at : Option ℕ) → at ≡ fault_at bytes → a ≡ b
one_by bytes a b h k (Some at) e = any_fault_only bytes at a e h ∙ sym (any_fault_only bytes at b e k)
one_by bytes a b h k None e =
    let d = whole_document bytes (sym e) in
    let r = finds_root bytes d.0 d.1 in
    any_single (any_parts_of (found_asks (length bytes)) r.found) a b (any_due_by bytes r.found r.others a e r.first h) (any_due_by bytes r.found r.others b e r.first k)

one_due : (bytes other : List ℕ) (a b : Result AnyTable TableFault) → bytes ≡ other → IsAnyAnswer bytes a → IsAnyAnswer other b → a ≡ b
one_due bytes other a b same h k = one_by other a b (subst (λ (xs : List ℕ). IsAnyAnswer xs a) same h) k (fault_at other) refl

abbrev spelled : AnyTable → Result AnyTable TableFault
spelled a = Ok a

abbrev refused : ℕ → TableKind → Result AnyTable TableFault
refused place what = Err (table.Bad place what)

ok_same : (a b : AnyTable) → spelled a ≡ spelled b → a ≡ b
ok_same a b e = cc

pub one_table : (files : List ℕ → Option (List ℕ)) (name : List ℕ) (a b : AnyTable) → IsTableNamed files name a → IsTableNamed files name b → a ≡ b
one_table files name a b h k =
    ok_same a b (one_due h.0 k.0 (Ok a) (Ok b) (one_file files name h.0 k.0 h.1 k.1) h.2 k.2)

ok_or_bad : (a : AnyTable) (place : ℕ) (what : TableKind) → spelled a ≡ refused place what → ⊥
ok_or_bad a place what e = absurd (cc)

table_or_none : (files : List ℕ → Option (List ℕ)) (name : List ℕ) (a : AnyTable) (place : ℕ) (what : TableKind) → IsTableNamed files name a → IsNoTable files name place what → ⊥
table_or_none files name a place what h k =
    ok_or_bad a place what (one_due h.0 k.0 (Ok a) (refused place what) (one_file files name h.0 k.0 h.1 k.1) h.2 k.2)

bad_same : (p q : ℕ) (a b : TableKind) → refused p a ≡ refused q b → (p ≡ q) × (a ≡ b)
bad_same p q a b e = (cc, cc)

one_none : (files : List ℕ → Option (List ℕ)) (name : List ℕ) (p q : ℕ) (a b : TableKind) → IsNoTable files name p a → IsNoTable files name q b → (p ≡ q) × (a ≡ b)
one_none files name p q a b h k =
    bad_same p q a b (one_due h.0 k.0 (refused p a) (refused q b) (one_file files name h.0 k.0 h.1 k.1) h.2 k.2)

-- ---- a bad table

abbrev Kinds : (List ℕ → Option (List ℕ)) → List ℕ → ℕ → BasisWord → ℕ → Type 0
Kinds files name number word place =
    ((word ≡ Absent) × (place ≡ number) × IsAbsent files name)
    ⊎ (((word ≡ TooLong) × (place ≡ number) × IsTooLong files name)
    ⊎ ((what : TableKind) × (word ≡ word_of what) × IsNoTable files name place what))

kinds : (files : List ℕ → Option (List ℕ)) (name : List ℕ) (number place : ℕ) (word : BasisWord) → IsBadTable files name number word place → Kinds files name number word place
kinds files name number place Absent h = inl (refl, h.1, h.0)
kinds files name number place TooLong h = inr (inl (refl, h.1, h.0))
kinds files name number place BadRow h = absurd h
kinds files name number place NotRising h = absurd h
kinds files name number place TooManyRows h = absurd h
kinds files name number place NotDocument h = inr (inr (kind.NotDocument, refl, h))
kinds files name number place NoTable h = inr (inr (kind.NoTable, refl, h))
kinds files name number place Scaled h = inr (inr (kind.Scaled, refl, h))
kinds files name number place BadAge h = inr (inr (kind.BadAge, refl, h))
kinds files name number place AgeGap h = inr (inr (kind.AgeGap, refl, h))
kinds files name number place BadRate h = inr (inr (kind.BadRate, refl, h))
kinds files name number place BadDuration h = inr (inr (kind.BadDuration, refl, h))
kinds files name number place NoUltimate h = inr (inr (kind.NoUltimate, refl, h))
kinds files name number place UltimateGap h = inr (inr (kind.UltimateGap, refl, h))

one_kind : (files : List ℕ → Option (List ℕ)) (name : List ℕ) (number p q : ℕ) (w v : BasisWord) → Kinds files name number w p → Kinds files name number v q → (w ≡ v) × (p ≡ q)
one_kind files name number p q w v (inl h) (inl k) = (h.0 ∙ sym k.0, h.1 ∙ sym k.1)
one_kind files name number p q w v (inl h) (inr (inl k)) = absurd (not_both files name h.2 k.2)
one_kind files name number p q w v (inl h) (inr (inr k)) = absurd (not_absent files name k.2.0 k.2.1 h.2)
one_kind files name number p q w v (inr (inl h)) (inl k) = absurd (not_both files name k.2 h.2)
one_kind files name number p q w v (inr (inl h)) (inr (inl k)) = (h.0 ∙ sym k.0, h.1 ∙ sym k.1)
one_kind files name number p q w v (inr (inl h)) (inr (inr k)) = absurd (not_too_long files name k.2.0 k.2.1 h.2)
one_kind files name number p q w v (inr (inr h)) (inl k) = absurd (not_absent files name h.2.0 h.2.1 k.2)
one_kind files name number p q w v (inr (inr h)) (inr (inl k)) = absurd (not_too_long files name h.2.0 h.2.1 k.2)
one_kind files name number p q w v (inr (inr h)) (inr (inr k)) =
    let same = one_none files name p q h.0 k.0 h.2 k.2 in
    (h.1 ∙ ap (λ (what : TableKind). word_of what) same.1 ∙ sym k.1, same.0)

pub one_bad_table : (files : List ℕ → Option (List ℕ)) (name : List ℕ) (number p q : ℕ) (w v : BasisWord) → IsBadTable files name number w p → IsBadTable files name number v q → (w ≡ v) × (p ≡ q)
one_bad_table files name number p q w v h k = one_kind files name number p q w v (kinds files name number p w h) (kinds files name number q v k)

table_or_kind : (files : List ℕ → Option (List ℕ)) (name : List ℕ) (number place : ℕ) (word : BasisWord) (a : AnyTable) → IsTableNamed files name a → Kinds files name number word place → ⊥
table_or_kind files name number place word a h (inl k) = not_absent files name h.0 h.1 k.2
table_or_kind files name number place word a h (inr (inl k)) = not_too_long files name h.0 h.1 k.2
table_or_kind files name number place word a h (inr (inr k)) = table_or_none files name a place k.0 h k.2

pub table_or_bad : (files : List ℕ → Option (List ℕ)) (name : List ℕ) (number place : ℕ) (word : BasisWord) → HasTable files name → IsBadTable files name number word place → ⊥
table_or_bad files name number place word h k = table_or_kind files name number place word h.0 h.1 (kinds files name number place word k)
