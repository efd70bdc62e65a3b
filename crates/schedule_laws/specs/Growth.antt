-- How the book grows
use Rattle.std.specs.Prelude.{◌≡◌, ℕ, List, map, take}
use Rattle.schedule_laws.specs.Names.{filter_map, Command, book, issue_id}
use Rattle.schedule_laws.specs.Prefixes.{IsFrontOf}

-- the numbers of the policies of a book
abbrev pub book_ids : List Command → List ℕ
book_ids commands = map (λ policy. policy.id) (book commands)

-- they are the numbers of the issues, in their order
abbrev pub IssuedIdsLaw : Type 0
IssuedIdsLaw = (commands : List Command) → book_ids commands ≡ filter_map issue_id commands

-- the policies of an earlier book are, by their numbers and in their order, the first of a later one
abbrev pub GrowingBookLaw : Type 0
GrowingBookLaw = (commands : List Command) (position : ℕ) → IsFrontOf (book_ids (take position commands)) (book_ids commands)
