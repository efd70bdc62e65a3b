use Rattle.life_args.proofs.Names.{◌∙◌, ap, sym, subst, map, string_bytes, is_simple_and_free, list_any-map, TakesWords, is_odd, Ok, Err}
use Rattle.memory_requests.specs.declared.words.NoMatches.TheVariants.{Usage}
use Rattle.life_args.proofs.Answering.{line_read, usage_refused, odd_refused}
use Rattle.life_args.proofs.Asking.{simple}
use Rattle.life_args.proofs.line.read_line.Goals as goal

pub returns-then-has_odd : goal.returns-then-has_odd
returns-then-has_odd c =
    let odd = c.has_odd.ensures ∙ list_any-map is_odd string_bytes c.args.words.now in
    odd_refused c.args.verb (map string_bytes c.args.words.now) (sym odd ∙ c.if-has_odd.true)

pub matches_of-requires : goal.matches_of-requires
matches_of-requires c = ap is_simple_and_free c.in-Ok.ensures ∙ simple c.args.verb

pub returns-in-Ok-matches_of : goal.returns-in-Ok-matches_of
returns-in-Ok-matches_of c =
    let words = map string_bytes c.args.words.now in
    let odd = c.has_odd.ensures ∙ list_any-map is_odd string_bytes c.args.words.now in
    line_read c.args.verb words c.in-Ok-matches_of.line (sym odd ∙ c.if-has_odd.false) (subst (λ app. TakesWords app words (Ok c.in-Ok-matches_of.line)) c.in-Ok.ensures c.in-Ok-matches_of.ensures)

pub returns-in-Err-Usage : goal.returns-in-Err-Usage
returns-in-Err-Usage c =
    let words = map string_bytes c.args.words.now in
    usage_refused c.args.verb words (subst (λ app. TakesWords app words (Err Usage)) c.in-Ok.ensures (rw c.in-Err-Usage.field-0-is at c.in-Err-Usage.ensures))
