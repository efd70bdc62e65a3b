-- A body in a piece is that of its file.
use Rattle.posting_journal.proofs.Names.{◌≡◌, ℕ, ◌+◌, ◌-◌, ◌*◌, ◌≤◌, List, take, drop, ◌∙◌, ap, arith, drop-drop, gate_place, body_place}
use Rattle.posting_journal.proofs.Bytes.{same_part}

pub body_of_part : (bytes file : List ℕ) (filled first n at : ℕ) → take filled bytes ≡ take filled (drop (gate_place first) file)
    → first ≤ n → at ≡ 65 * (n - first) + 1 → 65 * (n - first) + 65 ≤ filled
    → take 64 (drop at bytes) ≡ take 64 (drop (body_place n) file)
body_of_part bytes file filled first n at same later place room =
    let here : gate_place first + at ≡ body_place n = omega arith in
    same_part filled at 64 (drop (gate_place first) file) bytes same (omega arith)
    ∙ ap (λ (l : List ℕ). take 64 l) (drop-drop at (gate_place first) file ∙ ap (λ m. drop m file) here)
