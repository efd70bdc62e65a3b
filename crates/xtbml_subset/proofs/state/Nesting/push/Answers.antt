use Rattle.std.proofs.Common.{ap, arith}
use Rattle.xtbml_subset.proofs.Stack.{names_pushed}
use Rattle.xtbml_subset.proofs.state.Nesting.push.Goals as goal

pub returns : goal.returns
returns c = ap (λ names. record { phase = c.args.self.now.phase; names = names }) (names_pushed c.args.self.now.names c.args.self.now.depth c.args.name (omega arith))
