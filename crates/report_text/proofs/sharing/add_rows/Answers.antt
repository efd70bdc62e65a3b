use Rattle.std.proofs.Common.{◌≡◌, length, arith}
use Rattle.report_text.proofs.PartSteps.{added_rows, written_whole}
use Rattle.report_text.proofs.sharing.add_rows.Goals as goal

pub returns : goal.returns
returns g c =
    let long : length c.as_slice.result.now ≡ c.in_ok-texts.texts.len =
    rw c.as_slice.ensures.value (omega (arith, c.in_ok-shares.ensures.many, c.in_ok-texts.ensures, c.in_ok-texts.texts.ok.0)) in
    let whole = written_whole c.as_mut_slice.result.now c.as_slice.result.now c.map_into.new.values c.in_ok-texts.texts.items c.in_ok-texts.texts.len
    c.map_into.ensures.values long in
    added_rows c.add_texts.result c.as_mut_slice.result.now c.as_slice.result.now c.map_into.new.values c.args.rows.now c.args.parts.now c.add_texts.new.parts
    c.map_into.ensures.values (rw c.as_slice.ensures.value c.in_ok-shares.ensures.whole) (rw whole at c.add_texts.ensures.had) (rw whole at c.add_texts.ensures.added)
