use Rattle.life_dates.proofs.Names.{◌≡◌, ap, ◌∙◌, arith, to_z-of_z, date_of}
use Rattle.life_dates.proofs.AnniversaryLemmas.{later_year}
use Rattle.life_dates.proofs.years.years_between.Goals as goal

pub overflow_sub-last : goal.overflow_sub-last
overflow_sub-last c =
    let years = later_year c.args.issued c.args.on c.requires.in_range c.requires.is_term_day c.requires.not_before in
    let first : c.plain_year-first.result ≡ (date_of c.args.issued).year = c.plain_year-first.ensures ∙ ap (λ z. (date_of z).year) (to_z-of_z c.ranges.issued) in
    let last : c.plain_year-last.result ≡ (date_of c.args.on).year = c.plain_year-last.ensures ∙ ap (λ z. (date_of z).year) (to_z-of_z c.ranges.on) in
    omega arith
