use Rattle.report_text.proofs.Names.{◌≡◌, ◌++◌, IsOk, AllByRecursion, flat_map, had_text}
use Rattle.report_text.proofs.sharing.add_texts.Given as goal

abbrev pub invariant-loop-text : goal.invariant-loop-text
invariant-loop-text l = record {
  had : AllByRecursion IsOk l.yielded;
  added : l.parts ≡ l.initial.parts ++ flat_map had_text l.yielded;
}
