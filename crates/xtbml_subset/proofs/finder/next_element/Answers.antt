use Rattle.xtbml_subset.proofs.Names.{◌≡◌, ◌+◌, ◌^◌, ◌<◌, ◌≤◌, length, sym, ap, ◌∙◌, arith, rules, option_copied, Step, on, found, closed, elements_at}
use Rattle.xtbml_subset.specs.inside.Tokens.{piece_of, tag_of}
use Rattle.xtbml_subset.proofs.Behind.{behind_shorter}
use Rattle.xtbml_subset.proofs.PieceReading.{piece_behind}
use Rattle.xtbml_subset.proofs.Searching.{elements_by, elements_end, step_low}
use Rattle.xtbml_subset.proofs.PassedOver.{elements_text}
use Rattle.xtbml_subset.proofs.finder.next_element.Goals as goal

pub look-requires : goal.look-requires
look-requires c =
    let shorter : length c.in-Some.after.now < length c.loop-token.rest.now
    = behind_shorter c.loop-token.rest.now c.in-Some.after.now (piece_behind c.loop-token.rest.now (piece_of c.in-Some.token) c.in-Some.after.now (sym c.in-Some.ensures)) in
    let bound : length c.args.bytes.now < 2 ^ 63 = search rules in
    let low : c.loop-token.below + length c.loop-token.rest.now ≤ 1 + length c.args.bytes.now = c.loop-token.invariant.low in
    omega arith

pub returns-in-Wanted-clause-elements : goal.returns-in-Wanted-clause-elements
returns-in-Wanted-clause-elements c =
    let step : Step = found (tag_of c.in-Wanted.tag) c.in-Wanted.is_open in
    sym c.loop-token.invariant.same
    ∙ elements_by c.loop-token.rest.now (piece_of c.in-Some.token) c.in-Some.after.now c.loop-token.below (option_copied c.args.wanted) step (sym c.in-Some.ensures) c.in-Wanted.ensures

pub returns-in-Closed-clause-elements : goal.returns-in-Closed-clause-elements
returns-in-Closed-clause-elements c =
    sym c.loop-token.invariant.same
    ∙ elements_by c.loop-token.rest.now (piece_of c.in-Some.token) c.in-Some.after.now c.loop-token.below (option_copied c.args.wanted) closed (sym c.in-Some.ensures) c.in-Closed.ensures

pub loop-token-init : goal.loop-token-init
loop-token-init c =
    let shorter : length c.after_text-rest.result.now ≤ length c.args.bytes.now = c.after_text-rest.ensures.shorter in
    record {
      same = ap (elements_at c.args.depth (option_copied c.args.wanted)) c.after_text-rest.ensures.after ∙ elements_text c.args.bytes.now c.args.depth (option_copied c.args.wanted);
      within = shorter;
      low = (let level : c.args.depth ≤ 1 = c.requires.level in omega arith);
    }

pub loop-token-smaller : goal.loop-token-smaller
loop-token-smaller c =
    let shorter : length c.in-Some.after.now < length c.loop-token.rest.now
    = behind_shorter c.loop-token.rest.now c.in-Some.after.now (piece_behind c.loop-token.rest.now (piece_of c.in-Some.token) c.in-Some.after.now (sym c.in-Some.ensures)) in
    let left : length c.after_text-rest-in-Some.result.now ≤ length c.in-Some.after.now = c.after_text-rest-in-Some.ensures.shorter in
    omega arith

pub loop-token-preserved : goal.loop-token-preserved
loop-token-preserved c =
    let rest = c.loop-token.rest.now in
    let after = c.in-Some.after.now in
    let piece = piece_of c.in-Some.token in
    let wanted = option_copied c.args.wanted in
    let shorter : length after < length rest = behind_shorter rest after (piece_behind rest piece after (sym c.in-Some.ensures)) in
    let low : c.loop-token.below + length rest ≤ 1 + length c.args.bytes.now = c.loop-token.invariant.low in
    let within : length rest ≤ length c.args.bytes.now = c.loop-token.invariant.within in
    let deeper : c.in-On.depth ≤ c.loop-token.below + 1 = step_low c.loop-token.below wanted piece c.in-On.depth c.in-On.ensures in
    let left : length c.after_text-rest-in-Some.result.now ≤ length after = c.after_text-rest-in-Some.ensures.shorter in
    let over : elements_at c.in-On.depth wanted c.after_text-rest-in-Some.result.now ≡ elements_at c.in-On.depth wanted after
    = ap (elements_at c.in-On.depth wanted) c.after_text-rest-in-Some.ensures.after ∙ elements_text after c.in-On.depth wanted in
    record {
      same = over ∙ sym (elements_by rest piece after c.loop-token.below wanted (on c.in-On.depth) (sym c.in-Some.ensures) c.in-On.ensures) ∙ c.loop-token.invariant.same;
      within = omega arith;
      low = omega arith;
    }

pub returns-clause-elements : goal.returns-clause-elements
returns-clause-elements c = sym c.loop-token.invariant.same ∙ elements_end c.loop-token.rest.now c.loop-token.below (option_copied c.args.wanted) (sym c.in_default.ensures)

pub invariant_of-result : goal.invariant_of-result
invariant_of-result c =
    let rest = c.loop-token.rest.now in
    let shorter : length c.in-Some.after.now < length rest = behind_shorter rest c.in-Some.after.now (piece_behind rest (piece_of c.in-Some.token) c.in-Some.after.now (sym c.in-Some.ensures)) in
    let within : length rest ≤ length c.args.bytes.now = c.loop-token.invariant.within in
    let short : length c.args.bytes.now ≤ 4194304 = c.requires.short in
    record { small = omega arith }

pub returns-in-Wanted-clause-shorter : goal.returns-in-Wanted-clause-shorter
returns-in-Wanted-clause-shorter c =
    let rest = c.loop-token.rest.now in
    let shorter : length c.in-Some.after.now < length rest = behind_shorter rest c.in-Some.after.now (piece_behind rest (piece_of c.in-Some.token) c.in-Some.after.now (sym c.in-Some.ensures)) in
    let within : length rest ≤ length c.args.bytes.now = c.loop-token.invariant.within in
    omega arith
