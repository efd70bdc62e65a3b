-- The rows of parts, one part more at a time, and their texts.
use Rattle.report_text.proofs.Names.{◌≡◌, ℕ, length, take, drop, List, [], ◌∷◌, ◌++◌, Result, Ok, Err, IsOk, OnOk, refl, sym, ap, ap₂, ◌∙◌, append-nil, append_assoc, inl, inr, AllByRecursion, AllZip, flat_map, row_text, rows_of_parts, had_text, IsTextOfPart}
use Rattle.std.proofs.lemmas.Bool.{false≢true}
use Rattle.std.proofs.lemmas.List.{take_at}
use Rattle.std.proofs.lemmas.List.Concat.{flat_map-append}
use Rattle.std.proofs.lemmas.Slice.Zip.{AllZip-long}
use Rattle.parallel_value.specs.Pieces.{AreValues, MayGive, TakeAll}
use Rattle.parallel_value.proofs.PieceSteps.{zip_more}
use Rattle.memory_requests.specs.declared.evidence.NoMemory.{NoMemory}
use Rattle.policy_value.specs.declared.worth.Row.{Row}
use Rattle.report_text.specs.declared.printer.RowPart.{RowPart}
use Rattle.report_text.specs.declared.printer.RowPrinter.{RowPrinter}

rows_append : (xs ys : List RowPart) → rows_of_parts (xs ++ ys) ≡ rows_of_parts xs ++ rows_of_parts ys
rows_append [] ys = refl
rows_append (x ∷ xs) ys =
    ap (λ (rest : List Row). x.rows.now ++ rest) (rows_append xs ys) ∙ sym (append_assoc x.rows.now (rows_of_parts xs) (rows_of_parts ys))

rows_behind : (xs : List RowPart) (y : RowPart) → rows_of_parts (xs ++ y ∷ []) ≡ rows_of_parts xs ++ y.rows.now
rows_behind xs y = rows_append xs (y ∷ []) ∙ ap (λ (rest : List Row). rows_of_parts xs ++ rest) (append-nil y.rows.now)

-- a part more is cut off
pub part_cut : (rows : List Row) (cut more : List RowPart) (part : RowPart) (rest back : List Row) → rows_of_parts cut ++ rest ≡ rows
    → more ≡ cut ++ part ∷ [] → part.rows.now ++ back ≡ rest → rows_of_parts more ++ back ≡ rows
part_cut rows cut more part rest back whole longer parts =
    ap (λ (ps : List RowPart). rows_of_parts ps ++ back) longer
    ∙ ap (λ (rs : List Row). rs ++ back) (rows_behind cut part)
    ∙ append_assoc (rows_of_parts cut) part.rows.now back
    ∙ ap (λ (rs : List Row). rows_of_parts cut ++ rs) parts
    ∙ whole

-- and the last is what is left
pub parts_whole : (rows : List Row) (cut more : List RowPart) (part : RowPart) (rest : List Row) → rows_of_parts cut ++ rest ≡ rows
    → more ≡ cut ++ part ∷ [] → part.rows.now ≡ rest → rows_of_parts more ≡ rows
parts_whole rows cut more part rest whole longer last =
    ap rows_of_parts longer ∙ rows_behind cut part ∙ ap (λ (rs : List Row). rows_of_parts cut ++ rs) last ∙ whole

-- every worker takes every part
one_takes : (printer : RowPrinter) (parts : List RowPart) → AllByRecursion (λ (part : RowPart). Unit {0}) parts
one_takes printer [] = tt
one_takes printer (part ∷ more) = (tt, one_takes printer more)

pub all_take : (printers : List RowPrinter) (parts : List RowPart) → TakeAll (λ (printer : RowPrinter) (part : RowPart). Unit {0}) printers parts
all_take [] parts = tt
all_take (printer ∷ more) parts = (one_takes printer parts, all_take more parts)

-- what any of them gives is the part's text
may_text : (printers : List RowPrinter) (part : RowPart) (text : Result (List ℕ) NoMemory)
    → MayGive (λ (printer : RowPrinter) (part : RowPart) (text : Result (List ℕ) NoMemory). IsTextOfPart part text) printers part text → IsTextOfPart part text
may_text [] part text may = absurd may
may_text (printer ∷ more) part text (inl given) = given
may_text (printer ∷ more) part text (inr may) = may_text more part text may

-- the texts of all parts are those of their rows
told_rows : (parts : List RowPart) (texts : List (Result (List ℕ) NoMemory)) → AllZip IsTextOfPart parts texts → AllByRecursion IsOk texts
    → flat_map had_text texts ≡ flat_map row_text (rows_of_parts parts)
told_rows [] [] are had = refl
told_rows [] (text ∷ texts) are had = absurd are
told_rows (part ∷ more) [] are had = absurd are
told_rows (part ∷ more) (Ok text ∷ texts) are had =
    ap₂ ◌++◌ are.0 (told_rows more texts are.1 had.1) ∙ sym (flat_map-append row_text part.rows.now (rows_of_parts more))
told_rows (part ∷ more) (Err lack ∷ texts) are had = absurd (false≢true had.0)

pub all_told : (printers : List RowPrinter) (parts : List RowPart) (texts : List (Result (List ℕ) NoMemory))
    → AreValues (λ (printer : RowPrinter) (part : RowPart) (text : Result (List ℕ) NoMemory). IsTextOfPart part text) printers parts texts
    → AllByRecursion IsOk texts → flat_map had_text texts ≡ flat_map row_text (rows_of_parts parts)
all_told printers parts texts values had = told_rows parts texts (zip_more _ IsTextOfPart parts texts (may_text printers) values) had

-- what is added of the parts are the rows
pub added_rows : {U : Type 0} (result : Result U NoMemory) (printers : List RowPrinter) (parts : List RowPart) (texts : List (Result (List ℕ) NoMemory))
    (rows : List Row) (old new : List ℕ)
    → AreValues (λ (printer : RowPrinter) (part : RowPart) (text : Result (List ℕ) NoMemory). IsTextOfPart part text) printers parts texts
    → rows_of_parts parts ≡ rows → OnOk result (AllByRecursion IsOk texts) → OnOk result (new ≡ old ++ flat_map had_text texts)
    → OnOk result (new ≡ old ++ flat_map row_text rows)
added_rows (Ok done) printers parts texts rows old new values whole had added =
    added
    ∙ ap (λ (text : List ℕ). old ++ text) (all_told printers parts texts values had)
    ∙ ap (λ (rs : List Row). old ++ flat_map row_text rs) whole
added_rows (Err lack) printers parts texts rows old new values whole had added = tt

-- as many texts were written as there are places
pub written_whole : (printers : List RowPrinter) (parts : List RowPart) (texts places : List (Result (List ℕ) NoMemory)) (many : ℕ)
    → AreValues (λ (printer : RowPrinter) (part : RowPart) (text : Result (List ℕ) NoMemory). IsTextOfPart part text) printers parts texts
    → length parts ≡ many → take many (texts ++ drop (length texts) places) ≡ texts
written_whole printers parts texts places many values long =
    take_at texts (drop (length texts) places) many (AllZip-long _ parts texts values ∙ long)
