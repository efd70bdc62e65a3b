use Rattle.schedule_laws.proofs.Names.{◌++◌, ap, sym, ◌∙◌, take, drop, filter_map, issue_id}
use Rattle.std.proofs.lemmas.List.{take-append-drop}
use Rattle.std.proofs.lemmas.List.Elements.{filter_map-append}
use Rattle.policy_machine.proofs.BookGrowth.{book-ids}
use Rattle.schedule_laws.proofs.growth.growing_book_law.Goals as goal

pub returns-clause-ids : goal.returns-clause-ids
returns-clause-ids c = book-ids

pub returns-clause-grows : goal.returns-clause-grows
returns-clause-grows c = λ commands position. (
  filter_map issue_id (drop position commands),
  book-ids commands
      ∙ ap (filter_map issue_id) (sym (take-append-drop position commands))
      ∙ filter_map-append issue_id (take position commands) (drop position commands)
      ∙ ap (λ ids. ids ++ filter_map issue_id (drop position commands)) (sym (book-ids (take position commands))),
)
