-- What is copied is the body in its place.
use Rattle.std.proofs.Common.{◌≡◌, ℕ, ◌+◌, ◌-◌, ◌*◌, take, drop, ◌∙◌, ap, refl, arith}
use Rattle.posting_journal.proofs.Parts.{body_of_part}
use Rattle.posting_journal.proofs.pieces.Stretch.body.Goals as goal

pub returns : goal.returns
returns c = λ file part.
    let piece = c.args.self.now in
    let at : ℕ = 65 * (c.args.n - piece.from) + 1 in
    let width : (at + 64) - at ≡ 64 = omega arith in
    c.copy_from_slice.ensures.after ∙ ap (λ w. take w (drop at piece.bytes)) width
    ∙ body_of_part piece.bytes file piece.filled piece.from c.args.n at part c.requires.0 refl (omega (arith, c.requires.1))
