use Rattle.deficiency_reserve.proofs.Names.{arith, beta}
use Rattle.deficiency_reserve.proofs.Tests.{is_short, is_enough, is_close}
use Rattle.deficiency_reserve.proofs.gross.adequacy.Goals as goal

pub returns-then-charged-amount-clause-means : goal.returns-then-charged-amount-clause-means
returns-then-charged-amount-clause-means c = λ cover cap between narrow.
    is_short c.args.beta_lo c.args.beta_hi c.args.amount c.args.premium (beta cover cap) between (omega arith)

pub returns-then-charged-amount-2-clause-means : goal.returns-then-charged-amount-2-clause-means
returns-then-charged-amount-2-clause-means c = λ cover cap between narrow.
    is_enough c.args.beta_lo c.args.beta_hi c.args.amount c.args.premium (beta cover cap) between (omega arith)

pub returns-else-charged-amount-2-clause-means : goal.returns-else-charged-amount-2-clause-means
returns-else-charged-amount-2-clause-means c = λ cover cap between narrow.
    is_close c.args.beta_lo c.args.beta_hi c.args.amount c.args.premium (beta cover cap) c.requires.amount between narrow
    (omega arith) (omega arith)
