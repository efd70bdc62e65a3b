use Rattle.program_endings.proofs.Names.{ℕ, List, ◌≤◌, take, flat_map, Appends}
use Rattle.program_endings.proofs.saying.write_parts.Given as goal

abbrev pub invariant-loop-part : goal.invariant-loop-part
invariant-loop-part g l = record {
  later : g.K.Sink.faults l.initial.output ≤ g.K.Sink.faults l.output;
  written : Appends (g.K.Sink.written l.initial.output) (g.K.Sink.written l.output)
      (flat_map (λ (part : List ℕ). part) (take l.part-index l.part-items));
}
