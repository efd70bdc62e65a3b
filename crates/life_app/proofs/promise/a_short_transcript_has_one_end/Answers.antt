use Rattle.life_app.specs.Headline.{IsEnclosingRow}
use Rattle.life_app.specs.TableReserves.{table_reserves}
use Rattle.life_app.proofs.ShortLaws.{one_end, texts_some}
use Rattle.life_app.proofs.promise.a_short_transcript_has_one_end.Goals as goal

pub returns : goal.returns
returns c = record { some = λ basis. texts_some (IsEnclosingRow table_reserves basis); one = one_end }
