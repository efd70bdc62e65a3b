use Rattle.xtbml_subset.proofs.Names.{◌-◌, length, take, drop, ap, ◌∙◌, comment_end_at}
use Rattle.xtbml_subset.proofs.Runs.{end_from_dash, end_behind}
use Rattle.xtbml_subset.proofs.token.after_comment.Goals as goal

pub loop-rest-init : goal.loop-rest-init
loop-rest-init c = ap comment_end_at c.from_byte-rest.ensures.from ∙ end_from_dash c.args.bytes.now

pub loop-rest-preserved : goal.loop-rest-preserved
loop-rest-preserved c =
    let rest = c.loop-rest.rest.now in
    ap comment_end_at c.from_byte-rest-in-len1-up.ensures.from ∙ end_from_dash (take (length rest - 1) (drop 1 rest))
    ∙ end_behind rest c.in_default-after_dashes.ensures
    ∙ c.loop-rest.invariant
