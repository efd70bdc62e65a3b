-- The floor rises to the least position of a live pin or to the count, and so does that of the books.
use Rattle.office_state.proofs.Names.{◌≡◌, List, ◌∙◌, ap, min, map, arith, fold, Entry, Held, StandsFor}
use Rattle.office_state.proofs.PinTurns.{least, least_above, least_reached, stands_floor}
use Rattle.office_state.proofs.state.OfficeState.trim.Goals as goal

pub trim-requires-clause-rising : goal.trim-requires-clause-rising
trim-requires-clause-rising g c =
    let (history, stands) = c.requires.stands in
    let old = c.args.self.now in
    let is : c.least_position-floor.result ≡ least old history stands old.counted =
    c.least_position-floor.ensures ∙ ap (λ n. fold min n (map (λ (held : Held). held.position) old.pins.items)) c.count.ensures in
    omega (arith, is, least_above old history stands old.counted)

pub trim-requires-clause-reached : goal.trim-requires-clause-reached
trim-requires-clause-reached g c =
    let (history, stands) = c.requires.stands in
    let old = c.args.self.now in
    let is : c.least_position-floor.result ≡ least old history stands old.counted =
    c.least_position-floor.ensures ∙ ap (λ n. fold min n (map (λ (held : Held). held.position) old.pins.items)) c.count.ensures in
    omega (arith, is, least_reached old history stands old.counted)

pub returns-clause-stands : goal.returns-clause-stands
returns-clause-stands g c = λ (history : List Entry) (stands : StandsFor c.args.self.now history).
    stands_floor c.args.self.now history stands c.args.self.now.counted c.args.caller c.least_position-floor.result
    (c.least_position-floor.ensures ∙ ap (λ n. fold min n (map (λ (held : Held). held.position) c.args.self.now.pins.items)) c.count.ensures)
    c.trim.new.self _ c.trim.ensures.commands c.trim.ensures.floor
