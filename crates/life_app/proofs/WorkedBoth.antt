-- What worked cases of both disks are stated by.
use Rattle.life_app.proofs.Names.{◌≡◌, ◌≤◌, ◌<◌, ◌++◌, ℕ, List, [], ◌∷◌, refl, inl, inr, codes, lit≤, lit<, None, Some, arith, digits, Ghosts, bare, State, Checkpoint, WroteLine, TellsTruth}
use Rattle.program_endings.proofs.WorkedEndings.{no_fault}
use Rattle.program_endings.specs.Worked.{output_with}
use Rattle.stating_modes.proofs.EmptyFiles.{hello_refused}
use Rattle.life_app.specs.Worked.{BothRefuseHello, BothWords, TwoFilings, NoWordsLine}

pub both_words : BothWords
unfolding digits
both_words = (
  (Checkpoint, (refl, refl), tt),
  (State None, (refl, record { pieces = []; spells = refl; only = tt; id_is = refl }), tt),
  (
    State (Some 7001),
    (refl, record { pieces = bare (codes "7001") ∷ []; spells = refl; only = tt; id_is = ((lit≤ tt, lit≤ tt), refl) }),
    λ no. no,
  ),
)

-- a file that is no checkpoint says nothing false
empty_is_true : TellsTruth [] []
empty_is_true bodies opens s is within = let no : 0 ≡ 1 = is.opened in absurd (omega (arith, no))

pub two_filings : TwoFilings
two_filings = (inr (lit≤ tt), inr (lit< tt), (λ rose. let no : 1 ≤ 0 = rose in omega (arith, no)), (λ rose. let no : 0 < 0 = rose in omega (arith, no)), (tt, tt, empty_is_true))

pub both_refuse : {D E : Type 0} (g : Ghosts D) (e : Ghosts E) → BothRefuseHello g e
both_refuse g e disks output are reads (inl stated) = hello_refused g e disks output are reads stated.first stated.telling
both_refuse g e disks output are reads (inr saved) = hello_refused g e disks output are reads saved.first saved.telling

only_line : (bytes : List ℕ) → WroteLine (output_with 0 [] bytes) (codes "nomemory") → bytes ≡ codes "nomemory" ++ 10 ∷ []
only_line bytes (inl all) = all
only_line bytes (inr part) = absurd (no_fault part.0)

pub no_words : NoWordsLine
no_words words = ((refl, refl, tt, tt, inl refl), λ bytes ends. only_line bytes ends.4)
