-- The answer of the reader of tables of either kind is the one that is due.
use Rattle.xtbml_subset.proofs.Names.{◌≡◌, ℕ, List, [], ◌∷◌, length, Some, None, Result, Ok, Err, refl, sym, ap, subst, ◌∙◌, ◌⊎◌, inl, inr, codes, IfOk, IfErr, Rates, AnyTable, NotDocument, TableFault, Bad, NoMemory, Asks, ◌>=>◌, Parts, path, aggregate_parts, IsTableBy, Node, IsDocument, node_asks, IsTableAnswer, Unless, AnyParts, parts_by_axes, any_parts_of, aggregated, IsAnyTable, IsAnyBy, IsAnyAnswer, GivesAny, SaysSelect, Found, elements_at, found_asks, fault_at}
use Rattle.xtbml_subset.proofs.Sounding.{whole_document, longest_nested}
use Rattle.xtbml_subset.proofs.Matching.{Matches, finds_root}
use Rattle.xtbml_subset.proofs.AnyParts.{lifted}
use Rattle.xtbml_subset.proofs.ByParts.{axes_refused, by_parts, by_root, table_by_parts}
use Rattle.xtbml_subset.proofs.SelectSame.{any_same}
use Rattle.xtbml_subset.proofs.SelectSingle.{any_single}
use Rattle.xtbml_subset.proofs.Final.{not_accepted, one_longest, heads_are, unless_goes}

-- the bytes are a document, and by the checks this is the answer
abbrev pub IsAnyJudged : List ℕ → Result AnyTable TableFault → Type 0
IsAnyJudged bytes answer = (root : Node) × IsDocument bytes root × IsAnyTable node_asks root answer

-- ---- no document

pub any_fault_due : (bytes : List ℕ) (at : ℕ) → Some at ≡ fault_at bytes → IsAnyAnswer bytes (Err (Bad at NotDocument))
any_fault_due bytes at e = inr (not_accepted bytes at e, (at, longest_nested bytes at (sym e), refl))

pub any_fault_only : (bytes : List ℕ) (at : ℕ) (answer : Result AnyTable TableFault) → Some at ≡ fault_at bytes → IsAnyAnswer bytes answer → answer ≡ Err (Bad at NotDocument)
any_fault_only bytes at answer e (inl judged) = absurd (not_accepted bytes at e judged.0 judged.1)
any_fault_only bytes at answer e (inr h) =
    let same : h.1.0 ≡ at = one_longest bytes h.1.0 at h.1.1 (longest_nested bytes at (sym e)) in
    h.1.2 ∙ ap (λ (n : ℕ). Err (Bad n NotDocument)) same

pub any_fault_told : (bytes : List ℕ) (at : ℕ) (fault : TableFault) → Some at ≡ fault_at bytes → fault ≡ Bad at NotDocument → Unless fault (IsAnyAnswer bytes (Err fault))
any_fault_told bytes at fault e is = subst (λ (f : TableFault). Unless f (IsAnyAnswer bytes (Err f))) (sym is) (any_fault_due bytes at e)

pub any_gives_fault : (bytes : List ℕ) (at : ℕ) (fault : TableFault) (answer : Result AnyTable TableFault) → Some at ≡ fault_at bytes → fault ≡ Bad at NotDocument → IsAnyAnswer bytes answer
    → GivesAny (Err fault) answer
any_gives_fault bytes at fault answer e is due = subst (λ (f : TableFault). GivesAny (Err f) answer) (sym is) (any_fault_only bytes at answer e due)

-- ---- a document

same_any_parts : (bytes : List ℕ) (f : Found) (others : List Found) (root : Node) → elements_at 0 None bytes ≡ f ∷ others → IsDocument bytes root
    → any_parts_of (found_asks (length bytes)) f ≡ any_parts_of node_asks root
same_any_parts bytes f others root e d =
    let r = finds_root bytes root d in
    let same : r.found ≡ f = heads_are r.found f r.others others (sym r.first ∙ e) in
    any_same (length bytes) f root (subst (λ (x : Found). Matches (length bytes) x root) same r.matches)

pub any_judged_by : (bytes : List ℕ) (f : Found) (others : List Found) (answer : Result AnyTable TableFault) → None ≡ fault_at bytes → elements_at 0 None bytes ≡ f ∷ others
    → IsAnyBy (any_parts_of (found_asks (length bytes)) f) answer → IsAnyJudged bytes answer
any_judged_by bytes f others answer e first is =
    let d = whole_document bytes (sym e) in
    (d.0, d.1, by_root node_asks d.0 answer (subst (λ (parts : Result AnyParts TableFault). IsAnyBy parts answer) (same_any_parts bytes f others d.0 first d.1) is))

pub any_due_by : (bytes : List ℕ) (f : Found) (others : List Found) (answer : Result AnyTable TableFault) → None ≡ fault_at bytes → elements_at 0 None bytes ≡ f ∷ others
    → IsAnyAnswer bytes answer → IsAnyBy (any_parts_of (found_asks (length bytes)) f) answer
any_due_by bytes f others answer e first (inl judged) =
    subst (λ (parts : Result AnyParts TableFault). IsAnyBy parts answer) (sym (same_any_parts bytes f others judged.0 first judged.1)) (by_parts node_asks judged.0 answer judged.2)
any_due_by bytes f others answer e first (inr h) = let d = whole_document bytes (sym e) in absurd (h.0 d.0 d.1)

-- ---- a table by age alone

-- the answer of the checks of such a table is that of the checks of either kind, unless it says that the table is select
by_axes_agree : (asks : Asks Node) (root : Node) (found : Node × Node) (axes : List Node) (answer : Result Rates TableFault) → asks.children (codes "Axis") found.1 ≡ axes
    → IsTableBy (aggregate_parts asks found) answer → SaysSelect answer ⊎ IsAnyBy (parts_by_axes asks root found axes) (aggregated answer)
by_axes_agree asks root found [] answer e is = inr (lifted (aggregate_parts asks found) answer is)
by_axes_agree asks root found (inner ∷ more) answer e is =
    inl ((asks.row inner).at, subst (λ (parts : Result Parts TableFault). IsTableBy parts answer) (axes_refused asks found inner more e) is)

agree : (asks : Asks Node) (root : Node) (found : Result (Node × Node) TableFault) (answer : Result Rates TableFault) → IsTableBy (found >=> λ one. aggregate_parts asks one) answer
    → SaysSelect answer ⊎ IsAnyBy (found >=> λ one. parts_by_axes asks root one (asks.children (codes "Axis") one.1)) (aggregated answer)
agree asks root (Err fault) answer is = inr (ap (λ (r : Result Rates TableFault). aggregated r) is)
agree asks root (Ok found) answer is = by_axes_agree asks root found (asks.children (codes "Axis") found.1) answer refl is

pub aggregate_answer : (bytes : List ℕ) (answer : Result Rates TableFault) → IsTableAnswer bytes answer → SaysSelect answer ⊎ IsAnyAnswer bytes (aggregated answer)
aggregate_answer bytes answer (inl judged) =
    elim (agree node_asks judged.0 (path node_asks judged.0) answer (table_by_parts node_asks judged.0 answer judged.2)) [
      | inl says ↦ inl says
      | inr is ↦ inr (inl (judged.0, judged.1, by_root node_asks judged.0 (aggregated answer) is))
    ]
aggregate_answer bytes answer (inr h) = inr (inr (h.0, (h.1.0, h.1.1, ap (λ (r : Result Rates TableFault). aggregated r) h.1.2)))

pub or_gives : (answer : Result Rates TableFault) (P Q : Type 0) → SaysSelect answer ⊎ P → (P → Q) → SaysSelect answer ⊎ Q
or_gives answer P Q (inl says) goes = inl says
or_gives answer P Q (inr is) goes = inr (goes is)

-- ---- results

pub any_if_ok : (result : Result AnyTable TableFault) (P Q : AnyTable → Type 0) → ((table : AnyTable) → P table → Q table) → IfOk result P → IfOk result Q
any_if_ok (Ok table) P Q goes h = goes table h
any_if_ok (Err fault) P Q goes h = tt

pub any_if_fault : (result : Result AnyTable TableFault) (P Q : TableFault → Type 0) → ((fault : TableFault) → P fault → Q fault)
    → IfErr result (λ fault. Unless fault (P fault)) → IfErr result (λ fault. Unless fault (Q fault))
any_if_fault (Ok table) P Q goes h = tt
any_if_fault (Err fault) P Q goes h = unless_goes fault (P fault) (Q fault) (goes fault) h

pub any_gives : (result answer : Result AnyTable TableFault) (parts : Result AnyParts TableFault) → IfOk result (λ table. IsAnyBy parts (Ok table))
    → IfErr result (λ fault. Unless fault (IsAnyBy parts (Err fault))) → IsAnyBy parts answer → GivesAny result answer
any_gives (Ok table) answer parts read fault is = any_single parts answer (Ok table) is read
any_gives (Err (Bad at kind)) answer parts read fault is = any_single parts answer (Err (Bad at kind)) is fault
any_gives (Err (NoMemory lack)) answer parts read fault is = tt
