use Rattle.parallel_value.proofs.Names.{◌≡◌, ◌∙◌, ◌-◌, ap, sym, take, drop, length, length-drop, min, arith, take_min}
use Rattle.std.proofs.Math.Seq.{take-length}
use Rattle.parallel_value.proofs.sharing.part_at.Goals as goal

pub returns : goal.returns
returns g c =
    let rest = drop c.args.first c.args.items.now in
    let whole : take (length c.args.items.now - c.args.first) rest ≡ rest =
    ap (λ n. take n rest) (sym (length-drop c.args.first c.args.items.now)) ∙ take-length rest in
    let least : c.min.result ≡ min c.args.items_in_part (length rest) = omega (arith, c.min.ensures, ap (λ l. length l) whole) in
    ap (λ l. take c.min.result l) whole ∙ ap (λ n. take n rest) least ∙ take_min c.args.items_in_part rest
