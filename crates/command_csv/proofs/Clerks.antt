-- The lines of rows, the lanes if all rows are of lane 1, and how many valuations may still come
use Rattle.command_csv.proofs.Names.{◌≡◌, ℕ, zero, suc, ◌+◌, ◌≤◌, ◌<◌, Bool, true, false, eqb, cond, List, [], ◌∷◌, length, map, refl, ap, ◌∙◌, arith, AllZip, AllByRecursion, filter, ne_eqb, false≢true, Line, Post, Value, Trim, ClerkLine, by_first, IsScriptLine, IsLineRow, MayStandBehind, is_valuation, valuations_in, all_lines, lines_of, lane_of, lanes_of, lanes_up_to, most_valuations}
use Rattle.std.proofs.lemmas.List.{append-nil}

pub lines_of_first : (lines : List Line) → lines_of 1 (map by_first lines) ≡ lines
lines_of_first [] = refl
lines_of_first (line ∷ lines) = ap (λ more. line ∷ more) (lines_of_first lines)

lines_of_others : (clerk : ℕ) → eqb 1 clerk ≡ false → (lines : List Line) → lines_of clerk (map by_first lines) ≡ []
lines_of_others clerk other [] = refl
lines_of_others clerk other (line ∷ lines) = rw other (lines_of_others clerk other lines)

lanes_up_first : (n : ℕ) (lines : List Line) → lanes_up_to (suc n) (map by_first lines) ≡ lane_of 1 lines
lanes_up_first zero lines = ap (lane_of 1) (lines_of_first lines)
lanes_up_first (suc n) lines =
    rw (lines_of_others (suc (suc n)) (ne_eqb 1 (suc (suc n)) (λ e. omega (arith, e))) lines) (append-nil (lanes_up_to (suc n) (map by_first lines)) ∙ lanes_up_first n lines)

pub lanes_of_first : (lines : List Line) → lanes_of (map by_first lines) ≡ lane_of 1 lines
lanes_of_first lines = lanes_up_first 7 lines

pub all_right : (rows : List (List (List ℕ))) (entries : List ClerkLine) → AllZip IsLineRow rows entries → AllByRecursion IsScriptLine (all_lines entries)
all_right [] [] h = tt
all_right [] (entry ∷ entries) h = absurd h
all_right (row ∷ rows) [] h = absurd h
all_right (row ∷ rows) (entry ∷ entries) h = (h.0.0.right, all_right rows entries h.1)

-- the valuations among lines
one_first : (b : Bool) (line : Line) (others : List Line) → length (cond b (line ∷ others) others) ≡ length (cond b (line ∷ []) []) + length others
one_first true line others = omega arith
one_first false line others = omega arith

pub valuations-cons : (line : Line) (lines : List Line) → valuations_in (line ∷ lines) ≡ valuations_in (line ∷ []) + valuations_in lines
valuations-cons line lines = one_first (is_valuation line) line (filter is_valuation lines)

-- a line that may come after so many valuations leaves no more than there may be
pub room_counted : (valued : ℕ) (line : Line) → valued ≤ most_valuations → MayStandBehind valued line → valued + valuations_in (line ∷ []) ≤ most_valuations
room_counted valued (Post c) few h = omega (arith, few)
room_counted valued (Value on at workers) few h = let room : valued < most_valuations = h refl in omega arith
room_counted valued Trim few h = omega (arith, few)

-- and a line that leaves no more may come there
pub room_left : (valued : ℕ) (line : Line) → valued + valuations_in (line ∷ []) ≤ most_valuations → MayStandBehind valued line
room_left valued (Post c) few = λ no. absurd (false≢true no)
room_left valued (Value on at workers) few = λ _. omega (arith, few)
room_left valued Trim few = λ no. absurd (false≢true no)

pub room_first : (valued : ℕ) (line : Line) (lines : List Line) → valued + valuations_in (line ∷ lines) ≤ most_valuations → MayStandBehind valued line
room_first valued line lines few = room_left valued line (omega (arith, few, valuations-cons line lines))

pub room_behind : (valued : ℕ) (line : Line) (lines : List Line) → valued + valuations_in (line ∷ lines) ≤ most_valuations → valued + valuations_in (line ∷ []) + valuations_in lines ≤ most_valuations
room_behind valued line lines few = omega (arith, few, valuations-cons line lines)
