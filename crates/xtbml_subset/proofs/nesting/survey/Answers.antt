use Rattle.xtbml_subset.proofs.Names.{◌+◌, ◌<◌, ◌≤◌, length, None, sym, ap, subst, ◌∙◌, arith, codes, Opening, State, outside, elements_at, Passing, ElementPath, no_path, IsPath, path_of, state_of, walk_at, fault_place, fault_at}
use Rattle.xtbml_subset.specs.inside.Tokens.{piece_of}
use Rattle.xtbml_subset.proofs.Behind.{behind_shorter}
use Rattle.xtbml_subset.proofs.PieceReading.{piece_behind}
use Rattle.xtbml_subset.proofs.Walking.{walk_step, walk_stuck, walk_end, place_stuck}
use Rattle.xtbml_subset.proofs.Stack.{texts, length-names_of}
use Rattle.xtbml_subset.proofs.Sounding.{place_none}
use Rattle.xtbml_subset.proofs.Matching.{mark_passed}
use Rattle.xtbml_subset.proofs.Surveying.{path_step, tally_low}
use Rattle.xtbml_subset.proofs.Surveyed.{path_start, path_run}
use Rattle.xtbml_subset.proofs.nesting.survey.Goals as goal

pub loop-token-init : goal.loop-token-init
loop-token-init c =
    let bytes = c.args.bytes.now in
    let rest = c.after_mark-rest.result.now in
    let begins = c.new-nesting.ensures in
    let passed = mark_passed bytes ∙ ap (elements_at 0 None) (sym c.after_mark-rest.ensures.rest) in
    let none = ap (λ (s : State). length s.names) (sym begins) in
    let there : IsPath bytes (length (state_of c.new-nesting.result).names) rest no_path = subst (λ n. IsPath bytes n rest no_path) none (path_start bytes rest passed) in
    record {
      same_end = ap (λ (s : State). walk_at s rest) begins ∙ ap (walk_at (outside Opening)) c.after_mark-rest.ensures.rest;
      within = c.after_mark-rest.ensures.length;
      low = (let none_yet = ap (λ (p : ElementPath). p.tally.count) c.new-path.ensures in let shorter : length rest ≤ length bytes = c.after_mark-rest.ensures.length in omega arith);
      is_path = subst (IsPath bytes (length (state_of c.new-nesting.result).names) rest) (sym c.new-path.ensures) there;
    }

pub returns-then-not-take-clause-fault : goal.returns-then-not-take-clause-fault
unfolding fault_at
returns-then-not-take-clause-fault c =
    let rest = c.loop-token.rest.now in
    let state = state_of c.loop-token.nesting in
    let total = length c.args.bytes.now in
    let piece = piece_of c.in-Some.token in
    let read = sym c.in-Some.ensures in
    let stuck = walk_stuck rest piece c.in-Some.after.now state read c.if-not-take.ensures in
    sym (place_stuck total rest piece c.in-Some.after.now state read) ∙ ap (fault_place total) (sym stuck ∙ c.loop-token.invariant.same_end)

pub invariant_of-passing : goal.invariant_of-passing
invariant_of-passing c =
    let rest = c.loop-token.rest.now in
    let shorter : length c.in-Some.after.now < length rest = behind_shorter rest c.in-Some.after.now (piece_behind rest (piece_of c.in-Some.token) c.in-Some.after.now (sym c.in-Some.ensures)) in
    let within : length rest ≤ length c.args.bytes.now = c.loop-token.invariant.within in
    let short : length c.args.bytes.now ≤ 4194304 = c.requires.short in
    record { small = omega arith }

pub loop-token-smaller : goal.loop-token-smaller
loop-token-smaller c =
    let shorter : length c.in-Some.after.now < length c.loop-token.rest.now
    = behind_shorter c.loop-token.rest.now c.in-Some.after.now (piece_behind c.loop-token.rest.now (piece_of c.in-Some.token) c.in-Some.after.now (sym c.in-Some.ensures)) in
    let left : length c.after_run-rest.result.now ≤ length c.in-Some.after.now = c.after_run-rest.ensures.shorter in
    omega arith

pub loop-token-preserved : goal.loop-token-preserved
loop-token-preserved c =
    let bytes = c.args.bytes.now in
    let rest = c.loop-token.rest.now in
    let after = c.in-Some.after.now in
    let piece = piece_of c.in-Some.token in
    let read = sym c.in-Some.ensures in
    let old = c.loop-token.nesting in
    let next = state_of c.take.new.self in
    let shorter : length after < length rest = behind_shorter rest after (piece_behind rest piece after read) in
    let within : length rest ≤ length bytes = c.loop-token.invariant.within in
    let left : length c.after_run-rest.result.now ≤ length after = c.after_run-rest.ensures.shorter in
    let passing : Passing = record { piece = piece; depth = old.depth; from = rest; rest = after } in
    let depth_is = sym (length-names_of old.depth (texts old.names)) in
    let step = path_step bytes (state_of old) next passing (path_of c.loop-token.path) depth_is read c.if-not-take.ensures c.loop-token.invariant.is_path in
    let passed = subst (IsPath bytes (length next.names) after) (sym c.pass.ensures) step in
    let count_is = ap (λ (p : ElementPath). p.tally.count) c.pass.ensures in
    let count_low = tally_low 4 (codes "Y") passing (path_of c.loop-token.path).axis c.loop-token.path.tally in
    let room : c.loop-token.path.tally.count + length rest ≤ length bytes = c.loop-token.invariant.low in
    record {
      same_end = c.after_run-rest.ensures.walk ∙ sym (walk_step rest piece after (state_of old) next read c.if-not-take.ensures) ∙ c.loop-token.invariant.same_end;
      within = omega arith;
      low = omega arith;
      is_path = path_run bytes (length next.names) after c.after_run-rest.result.now (path_of c.pass.new.self) c.after_run-rest.ensures.elements passed;
    }

pub returns-in-Some-place_at_end-clause-fault : goal.returns-in-Some-place_at_end-clause-fault
unfolding fault_at
returns-in-Some-place_at_end-clause-fault c =
    let rest = c.loop-token.rest.now in
    let end = walk_end rest (state_of c.loop-token.nesting) (sym c.in_default.ensures) in
    c.in-Some-place_at_end.ensures.fault ∙ ap (fault_place (length c.args.bytes.now)) (sym end ∙ c.loop-token.invariant.same_end)

pub returns-in-None-clause-document : goal.returns-in-None-clause-document
unfolding fault_at
returns-in-None-clause-document c =
    let rest = c.loop-token.rest.now in
    let end = walk_end rest (state_of c.loop-token.nesting) (sym c.in_default.ensures) in
    c.in-None.ensures.fault ∙ ap (fault_place (length c.args.bytes.now)) (sym end ∙ c.loop-token.invariant.same_end)

pub returns-in-None-clause-path : goal.returns-in-None-clause-path
returns-in-None-clause-path c =
    let bytes = c.args.bytes.now in
    let rest = c.loop-token.rest.now in
    let state = state_of c.loop-token.nesting in
    let path = path_of c.loop-token.path in
    let ended = place_none (length bytes) state.phase state.names rest (sym c.in-None.ensures.fault) in
    let none = ap (λ (s : State). length s.names) ended.1 in
    subst (λ r. IsPath bytes 0 r path) ended.0 (subst (λ n. IsPath bytes n rest path) none c.loop-token.invariant.is_path)

pub pass-requires : goal.pass-requires
pass-requires c =
    let rest = c.loop-token.rest.now in
    let shorter : length c.in-Some.after.now < length rest = behind_shorter rest c.in-Some.after.now (piece_behind rest (piece_of c.in-Some.token) c.in-Some.after.now (sym c.in-Some.ensures)) in
    let room : c.loop-token.path.tally.count + length rest ≤ length c.args.bytes.now = c.loop-token.invariant.low in
    let short : length c.args.bytes.now ≤ 4194304 = c.requires.short in
    omega arith
