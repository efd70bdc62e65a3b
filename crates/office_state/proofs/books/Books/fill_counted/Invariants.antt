-- The policies so far are copied, each in few looks.
use Rattle.office_state.proofs.Names.{◌≡◌, ◌+◌, ◌*◌, ◌-◌, ◌≤◌, take, drop, vec_capacity, book, commands_in, looks_at_most}
use Rattle.office_state.proofs.books.Books.fill_counted.Given as goal

abbrev pub invariant-loop-index : goal.invariant-loop-index
invariant-loop-index g l = record {
  copied : l.window.items ≡ take (l.index - l.first) (drop l.first (book (take l.p (commands_in l.self))));
  from : l.first ≤ l.index;
  within : l.index - l.first ≤ l.end - l.first;
  room : vec_capacity l.window ≡ vec_capacity l.fn.window;
  looks : l.steps ≤ l.initial.steps + (l.index - l.first) * looks_at_most;
}
