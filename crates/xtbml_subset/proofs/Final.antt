-- The answer of the reader is the one that is due.
use Rattle.xtbml_subset.proofs.Names.{◌≡◌, ℕ, ◌≤◌, List, [], ◌∷◌, length, Some, None, Result, Ok, Err, refl, sym, ap, subst, ◌∙◌, inl, inr, arith, IfOk, IfErr, Rates, NotDocument, TableFault, Bad, NoMemory, fault_at, Element, Found, depth_in, elements_from, elements_at, Stands, IsPath, IsFound, found_of, sought_of, path_of, Parts, parts_of, IsTableBy, found_asks, Node, IsDocument, node_asks, IsLongestNested, IsJudged, IsNoDocument, IsTableAnswer, Gives, Unless}
use Rattle.xtbml_subset.specs.declared.search.Search.{Search}
use Rattle.xtbml_subset.specs.declared.search.Search.TheVariants.{Seeking, Hit, Missed}
use Rattle.xtbml_subset.specs.declared.path.ElementPath.{ElementPath as APath}
use Rattle.xtbml_subset.proofs.Accepting.{document_accepted}
use Rattle.xtbml_subset.proofs.Sounding.{whole_document, longest_nested}
use Rattle.xtbml_subset.proofs.Matching.{Matches, finds_root}
use Rattle.xtbml_subset.proofs.Surveyed.{path_found}
use Rattle.xtbml_subset.proofs.Judging.{parts_same, table_one}
use Rattle.xtbml_subset.proofs.ByParts.{table_by_parts, table_by_root}

-- ---- no document

pub not_accepted : (bytes : List ℕ) (at : ℕ) → Some at ≡ fault_at bytes → IsNoDocument bytes
not_accepted bytes at e root d = absurd (let none : Some at ≡ None = e ∙ document_accepted bytes root d in cc)

pub fault_due : (bytes : List ℕ) (at : ℕ) → Some at ≡ fault_at bytes → IsTableAnswer bytes (Err (Bad at NotDocument))
fault_due bytes at e = inr (not_accepted bytes at e, (at, longest_nested bytes at (sym e), refl))

pub one_longest : (bytes : List ℕ) (m n : ℕ) → IsLongestNested bytes m → IsLongestNested bytes n → m ≡ n
one_longest bytes m n a b =
    let up : m ≤ n = b.longest m a.within a.nested in
    let down : n ≤ m = a.longest n b.within b.nested in
    omega arith

pub fault_only : (bytes : List ℕ) (at : ℕ) (answer : Result Rates TableFault) → Some at ≡ fault_at bytes → IsTableAnswer bytes answer → answer ≡ Err (Bad at NotDocument)
fault_only bytes at answer e (inl judged) = absurd (not_accepted bytes at e judged.0 judged.1)
fault_only bytes at answer e (inr h) =
    let same : h.1.0 ≡ at = one_longest bytes h.1.0 at h.1.1 (longest_nested bytes at (sym e)) in
    h.1.2 ∙ ap (λ (n : ℕ). Err (Bad n NotDocument)) same

pub fault_told : (bytes : List ℕ) (at : ℕ) (fault : TableFault) → Some at ≡ fault_at bytes → fault ≡ Bad at NotDocument → Unless fault (IsTableAnswer bytes (Err fault))
fault_told bytes at fault e is = subst (λ (f : TableFault). Unless f (IsTableAnswer bytes (Err f))) (sym is) (fault_due bytes at e)

pub gives_fault : (bytes : List ℕ) (at : ℕ) (fault : TableFault) (answer : Result Rates TableFault) → Some at ≡ fault_at bytes → fault ≡ Bad at NotDocument → IsTableAnswer bytes answer
    → Gives (Err fault) answer
gives_fault bytes at fault answer e is due = subst (λ (f : TableFault). Gives (Err f) answer) (sym is) (fault_only bytes at answer e due)

-- ---- a document

pub heads_are : (f g : Found) (fs gs : List Found) → f ∷ fs ≡ g ∷ gs → f ≡ g
heads_are f g fs gs e = cc

pub same_parts : (bytes : List ℕ) (f : Found) (others : List Found) (root : Node) → elements_at 0 None bytes ≡ f ∷ others → IsDocument bytes root
    → parts_of (found_asks (length bytes)) f ≡ parts_of node_asks root
same_parts bytes f others root e d =
    let r = finds_root bytes root d in
    let same : r.found ≡ f = heads_are r.found f r.others others (sym r.first ∙ e) in
    parts_same (length bytes) f root (subst (λ (x : Found). Matches (length bytes) x root) same r.matches)

some_root : (bytes : List ℕ) → None ≡ fault_at bytes → elements_at 0 None bytes ≡ [] → ⊥
some_root bytes e none =
    let d = whole_document bytes (sym e) in
    let r = finds_root bytes d.0 d.1 in
    let both : r.found ∷ r.others ≡ [] = sym r.first ∙ none in
    absurd cc

nothing_left : (bytes : List ℕ) → elements_at 0 None bytes ≡ elements_at 0 None [] → elements_at 0 None bytes ≡ []
unfolding elements_from
nothing_left bytes e = e

-- the root was found
pub root_found : (bytes : List ℕ) (search : Search) → None ≡ fault_at bytes → Stands 0 None 0 [] (elements_at 0 None bytes) (sought_of search) → ((e : Element) → search ≡ Hit e → ⊥) → ⊥
root_found bytes Seeking e stands other = some_root bytes e (nothing_left bytes stands.1)
root_found bytes Missed e stands other = some_root bytes e stands
root_found bytes (Hit element) e stands other = other element refl

abbrev pub behind_root : Found → List Found
behind_root f = elements_at (depth_in f.is_open) None f.rest

pub root_first : (bytes : List ℕ) (search : Search) (root : Element) → search ≡ Hit root → Stands 0 None 0 [] (elements_at 0 None bytes) (sought_of search)
    → elements_at 0 None bytes ≡ found_of root ∷ behind_root (found_of root)
root_first bytes search root e stands = subst (λ s. Stands 0 None 0 [] (elements_at 0 None bytes) (sought_of s)) e stands

pub path_of_root : (bytes : List ℕ) (path : APath) (root : Element) → path.root ≡ Hit root → IsPath bytes 0 [] (path_of path) → IsFound (found_of root) (path_of path)
path_of_root bytes path root e is = path_found bytes (path_of path) (found_of root) (ap sought_of e) is

pub judged_by : (bytes : List ℕ) (f : Found) (others : List Found) (answer : Result Rates TableFault) → None ≡ fault_at bytes → elements_at 0 None bytes ≡ f ∷ others
    → IsTableBy (parts_of (found_asks (length bytes)) f) answer → IsJudged bytes answer
judged_by bytes f others answer e first is =
    let d = whole_document bytes (sym e) in
    (d.0, d.1, table_by_root node_asks d.0 answer (subst (λ (parts : Result Parts TableFault). IsTableBy parts answer) (same_parts bytes f others d.0 first d.1) is))

pub due_by : (bytes : List ℕ) (f : Found) (others : List Found) (answer : Result Rates TableFault) → None ≡ fault_at bytes → elements_at 0 None bytes ≡ f ∷ others
    → IsTableAnswer bytes answer → IsTableBy (parts_of (found_asks (length bytes)) f) answer
due_by bytes f others answer e first (inl judged) = subst (λ (parts : Result Parts TableFault). IsTableBy parts answer) (sym (same_parts bytes f others judged.0 first judged.1)) (table_by_parts node_asks judged.0 answer judged.2)
due_by bytes f others answer e first (inr h) = let d = whole_document bytes (sym e) in absurd (h.0 d.0 d.1)

-- ---- results

pub if_ok : (result : Result Rates TableFault) (P Q : Rates → Type 0) → ((table : Rates) → P table → Q table) → IfOk result P → IfOk result Q
if_ok (Ok table) P Q goes h = goes table h
if_ok (Err fault) P Q goes h = tt

pub unless_goes : (fault : TableFault) (P Q : Type 0) → (P → Q) → Unless fault P → Unless fault Q
unless_goes (Bad at kind) P Q goes h = goes h
unless_goes (NoMemory lack) P Q goes h = tt

pub if_fault : (result : Result Rates TableFault) (P Q : TableFault → Type 0) → ((fault : TableFault) → P fault → Q fault)
    → IfErr result (λ fault. Unless fault (P fault)) → IfErr result (λ fault. Unless fault (Q fault))
if_fault (Ok table) P Q goes h = tt
if_fault (Err fault) P Q goes h = unless_goes fault (P fault) (Q fault) (goes fault) h

pub gives : (result answer : Result Rates TableFault) (parts : Result Parts TableFault) → IfOk result (λ table. IsTableBy parts (Ok table))
    → IfErr result (λ fault. Unless fault (IsTableBy parts (Err fault))) → IsTableBy parts answer → Gives result answer
gives (Ok table) answer parts read fault is = table_one parts answer (Ok table) is read
gives (Err (Bad at kind)) answer parts read fault is = table_one parts answer (Err (Bad at kind)) is fault
gives (Err (NoMemory lack)) answer parts read fault is = tt
