use Rattle.std.proofs.Common.{◌∙◌, map, string_bytes, sym}
use Rattle.life_args.proofs.Answering.{answered, behind, line_refused, mode_given, split_words, unnamed}
use Rattle.life_args.proofs.reading.read_mode.Goals as goal

pub returns-in_default-verb_named-clause-fault : goal.returns-in_default-verb_named-clause-fault
returns-in_default-verb_named-clause-fault c =
    unnamed c.args.words.now c.first-item.result c.in-len1-up.len_at_least c.first-item.is (λ verb is. c.in_default-verb_named.ensures.none verb (c.as_str.ensures.value ∙ is))

pub returns-in_err-line-clause-fault : goal.returns-in_err-line-clause-fault
returns-in_err-line-clause-fault c =
    let there = split_words c.args.words.now c.first-item.result _ c.in-len1-up.len_at_least c.first-item.is (sym c.as_str.ensures.value ∙ c.in-Some.ensures.some) in
    (answered c.args.words.now c.in-Some.verb _ c.from_residual.result there (line_refused c.in-Some.verb (map string_bytes (behind c.args.words.now)) c.from_residual.result c.in_err-line.field-0.0 c.from_residual.ensures.1 c.in_err-line.ensures)).1

pub returns : goal.returns
returns c =
    let there = split_words c.args.words.now c.first-item.result _ c.in-len1-up.len_at_least c.first-item.is (sym c.as_str.ensures.value ∙ c.in-Some.ensures.some) in
    let all = answered c.args.words.now c.in-Some.verb _ c.mode_of.result there (mode_given c.in-Some.verb (map string_bytes (behind c.args.words.now)) c.in_ok-line.line c.mode_of.result c.in_ok-line.ensures c.mode_of.ensures) in
    record { mode = all.0; fault = all.1 }
