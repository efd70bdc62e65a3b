use Rattle.std.proofs.Common.{◌≡◌, ◌+◌, ◌*◌, ◌^◌, ◌∙◌, min, ap, add-one, arith}
use Rattle.std.proofs.Math.Nat.{pow-suc}
use Rattle.decimal_text.proofs.Pushes.{capped-product}
use Rattle.decimal_text.proofs.units.Units.total.Goals as goal

pub loop-preserved : goal.loop-preserved
loop-preserved c =
    let n = c.args.self.now.count * 10 ^ c.loop.counter in
    let more : n * 10 ≡ c.args.self.now.count * 10 ^ (c.loop.counter + 1) = rw (add-one c.loop.counter, pow-suc 10 c.loop.counter) (omega arith) in
    c.min-total.ensures ∙ ap (λ x. min (x * 10) 1000000001) c.loop.invariant ∙ capped-product n 1000000001 10 (omega arith) ∙ ap (λ x. min x 1000000001) more
