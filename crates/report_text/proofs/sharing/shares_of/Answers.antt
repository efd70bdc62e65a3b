use Rattle.std.proofs.Common.{◌≡◌, ◌+◌, ◌++◌, ◌∙◌, ap, ap₂, length, length-append, refl, arith, rules}
use Rattle.std.proofs.lemmas.List.{take-append-drop}
use Rattle.report_text.proofs.PartSteps.{part_cut, parts_whole}
use Rattle.report_text.proofs.sharing.shares_of.Goals as goal

pub loop-preserved : goal.loop-preserved
loop-preserved c =
    let whole : c.split_at.result.0.now ++ c.split_at.result.1.now ≡ c.loop.rest.now =
    ap₂ ◌++◌ c.split_at.ensures.front c.split_at.ensures.back ∙ take-append-drop _ c.loop.rest.now in record {
      room = search rules;
      many =
          let longer : length c.push_reserved.new.self.items ≡ length c.loop.shares.items + 1 =
          ap length c.push_reserved.ensures.items ∙ length-append c.loop.shares.items _ in omega (arith, c.loop.invariant.many, longer);
      whole = part_cut c.args.rows.now c.loop.shares.items c.push_reserved.new.self.items _ c.loop.rest.now c.split_at.result.1.now
          c.loop.invariant.whole c.push_reserved.ensures.items whole;
    }

pub returns-clause-whole : goal.returns-clause-whole
returns-clause-whole c =
    parts_whole c.args.rows.now c.loop.shares.items c.push_reserved-2.new.self.items _ c.loop.rest.now c.loop.invariant.whole
    c.push_reserved-2.ensures.items refl
