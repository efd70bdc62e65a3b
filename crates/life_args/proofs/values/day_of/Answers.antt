use Rattle.life_args.proofs.Answering.{day_given}
use Rattle.life_args.proofs.values.day_of.Goals as goal

pub returns : goal.returns
returns c = day_given c.args.value.now c.as_bytes.result.now c.parse_day.result c.ok_or.result c.as_bytes.ensures.value c.parse_day.ensures.some c.parse_day.ensures.exact c.ok_or.ensures.value
