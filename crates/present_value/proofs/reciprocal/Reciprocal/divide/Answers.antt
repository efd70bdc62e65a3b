use Rattle.std.proofs.Common.{arith}
use Rattle.present_value.proofs.Reciprocals.{estimated}
use Rattle.present_value.proofs.reciprocal.Reciprocal.divide.Goals as goal

pub overflow_sub-rest : goal.overflow_sub-rest
overflow_sub-rest c =
    let is = estimated c.args.number c.args.self.now.divisor c.args.self.now.inverse c.args.self.now.least c.args.self.now.inverts c.requires in
    is.low

pub overflow_cast-rest-3 : goal.overflow_cast-rest-3
overflow_cast-rest-3 c =
    let is = estimated c.args.number c.args.self.now.divisor c.args.self.now.inverse c.args.self.now.least c.args.self.now.inverts c.requires in
    omega (arith, is.low, is.high, c.args.self.now.most)

pub returns-then-rest-self-clause-rest : goal.returns-then-rest-self-clause-rest
returns-then-rest-self-clause-rest c =
    let is = estimated c.args.number c.args.self.now.divisor c.args.self.now.inverse c.args.self.now.least c.args.self.now.inverts c.requires in
    omega (arith, is.low, is.high)

pub returns-else-rest-self-clause-whole : goal.returns-else-rest-self-clause-whole
returns-else-rest-self-clause-whole c =
    let is = estimated c.args.number c.args.self.now.divisor c.args.self.now.inverse c.args.self.now.least c.args.self.now.inverts c.requires in
    omega (arith, is.low)
