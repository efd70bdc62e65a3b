use Rattle.life_dates.proofs.Names.{◌≡◌, ◌-◌, ◌≤◌, ◌≤ℤ◌, ◌<ℤ◌, pos, ap, ◌∙◌, arith, w32, to_z, of_z, to_z-of_z, int_min, ints, anniversary_of, IsCompleted}
use Rattle.life_dates.proofs.AnniversaryLemmas.{completed_years}
use Rattle.life_dates.proofs.years.completed.Goals as goal

-- what an anniversary after the day says
missed : (c : goal.Then-anniversary-on) → (1 ≤ c.years_between-years.result) × IsCompleted c.args.issued c.args.on (c.years_between-years.result - 1)
missed c =
    let issued : to_z w32 (of_z w32 c.args.issued) ≡ c.args.issued = to_z-of_z c.ranges.issued in
    let on : to_z w32 (of_z w32 c.args.on) ≡ c.args.on = to_z-of_z c.ranges.on in
    let last : to_z w32 (of_z w32 c.min.result) ≡ c.min.result = to_z-of_z {w = w32} (record { sfits = c.min.type_inv }) in
    let least = c.min.ensures.value ∙ ap (λ z. int_min z (pos 157_053)) on in
    let years = rw (issued, last) at c.years_between-years.ensures in
    let day : c.anniversary.result ≡ anniversary_of c.args.issued c.years_between-years.result = c.anniversary.ensures.value ∙ ap (λ z. anniversary_of z c.years_between-years.result) issued in
    let after : c.args.on <ℤ anniversary_of c.args.issued c.years_between-years.result = omega (arith, ints) in
    (completed_years c.args.issued c.args.on c.min.result c.years_between-years.result c.requires.in_range c.requires.not_before least years).1 after

pub overflow_sub-result : goal.overflow_sub-result
overflow_sub-result c = (missed c).0

pub returns-then-anniversary-on : goal.returns-then-anniversary-on
returns-then-anniversary-on c = (missed c).1

pub returns : goal.returns
returns c =
    let issued : to_z w32 (of_z w32 c.args.issued) ≡ c.args.issued = to_z-of_z c.ranges.issued in
    let on : to_z w32 (of_z w32 c.args.on) ≡ c.args.on = to_z-of_z c.ranges.on in
    let last : to_z w32 (of_z w32 c.min.result) ≡ c.min.result = to_z-of_z {w = w32} (record { sfits = c.min.type_inv }) in
    let least = c.min.ensures.value ∙ ap (λ z. int_min z (pos 157_053)) on in
    let years = rw (issued, last) at c.years_between-years.ensures in
    let day : c.anniversary.result ≡ anniversary_of c.args.issued c.years_between-years.result = c.anniversary.ensures.value ∙ ap (λ z. anniversary_of z c.years_between-years.result) issued in
    let reached : anniversary_of c.args.issued c.years_between-years.result ≤ℤ c.args.on = omega (arith, ints) in
    (completed_years c.args.issued c.args.on c.min.result c.years_between-years.result c.requires.in_range c.requires.not_before least years).0 reached
