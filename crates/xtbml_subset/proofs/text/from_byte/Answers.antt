use Rattle.xtbml_subset.proofs.Names.{length, sym, ◌∙◌, arith, drop_all}
use Rattle.xtbml_subset.proofs.Runs.{found_is, none_is}
use Rattle.xtbml_subset.proofs.text.from_byte.Goals as goal

pub returns-in-Some-clause-from : goal.returns-in-Some-clause-from
returns-in-Some-clause-from c = c.split_at.ensures.back ∙ sym (found_is c.args.byte c.args.bytes.now c.memchr.result c.in-Some.count c.in-Some.is c.memchr.ensures)

pub returns-in-None-clause-from : goal.returns-in-None-clause-from
returns-in-None-clause-from c =
    c.split_at-in-None.ensures.back ∙ drop_all (length c.args.bytes.now) c.args.bytes.now (omega arith)
    ∙ sym (none_is c.args.byte c.args.bytes.now c.memchr.result c.in-None.is c.memchr.ensures)
