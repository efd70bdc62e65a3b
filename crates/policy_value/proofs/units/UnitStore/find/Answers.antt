use Rattle.policy_value.proofs.Names.{◌≡◌, ◌<◌, length, ap, arith, ◌∙◌, unit_place}
use Rattle.policy_value.proofs.PerUnit.{found_held, holds_found, right_found}
use Rattle.policy_value.proofs.units.UnitStore.find.Goals as goal

pub returns-clause-right : goal.returns-clause-right
returns-clause-right c = λ basis all.
    let places = c.args.self.now.places.items in
    let within : c.place_of-place.result < length places = omega (arith, c.place_of-place.ensures.within, c.len.ensures) in
    right_found basis places c.place_of-place.result c.index.result.now c.args.key c.args.t c.unit_of.result all within c.index.ensures c.unit_of.ensures.is

pub returns-clause-holds : goal.returns-clause-holds
returns-clause-holds c =
    let places = c.args.self.now.places.items in
    let within : c.place_of-place.result < length places = omega (arith, c.place_of-place.ensures.within, c.len.ensures) in
    let count : c.len.result ≡ length places = omega (arith, c.len.ensures) in
    holds_found places c.place_of-place.result c.index.result.now c.args.key c.args.t c.unit_of.result
    (c.place_of-place.ensures.is ∙ ap (λ n. unit_place c.args.key c.args.t n) count) within c.index.ensures c.unit_of.ensures.is

pub returns-clause-found : goal.returns-clause-found
returns-clause-found c = λ unit holds.
    let places = c.args.self.now.places.items in
    let count : c.len.result ≡ length places = omega (arith, c.len.ensures) in
    c.unit_of.ensures.found unit (found_held places c.place_of-place.result c.index.result.now c.args.key c.args.t unit
    (c.place_of-place.ensures.is ∙ ap (λ n. unit_place c.args.key c.args.t n) count) c.index.ensures holds)
