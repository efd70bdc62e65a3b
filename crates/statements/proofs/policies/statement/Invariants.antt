use Rattle.std.proofs.Common.{◌≡◌, ℕ, take}
use Rattle.std.specs.List.{flat_map}
use Rattle.policy_types.specs.declared.command.Command.{Command as ACommand}
use Rattle.statements.specs.Statements.{entry_text}
use Rattle.statements.proofs.policies.statement.Given as goal

abbrev pub invariant-loop-position : goal.invariant-loop-position
invariant-loop-position l =
    l.lines ≡ flat_map (λ (entry : ℕ × ACommand). entry_text entry.0 entry.1) (take l.position-index l.entries)
