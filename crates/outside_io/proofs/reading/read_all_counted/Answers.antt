-- The bytes that came and those of the last turn are what was given, and a prefix of what was left.
use Rattle.std.proofs.Common.{◌++◌, take, ◌∙◌, arith, rules}
use Rattle.outside_io.proofs.StreamLemmas.{consumes_more, consumes_still, gives_more, gives_none, longer, had_more, some_more, front_more}
use Rattle.outside_io.proofs.reading.read_all_counted.Goals as goal

pub returns-in_err-n-clause-reads : goal.returns-in_err-n-clause-reads
returns-in_err-n-clause-reads g c = record {
  all_given = search rules;
  ended = search rules;
  within = search rules;
  whole = search rules;
  end = search rules;
  more_given = search rules;
  too_long = search rules;
  fault = search rules;
  counted = search rules;
  later = search rules;
  memory = search rules;
  front = record {
    front = c.loop-bytes.bytes.items;
    given = c.in_err-n.ensures.given ∙ c.loop-bytes.invariant.given;
    left = consumes_still (g.S.Source.left c.args.source.now) (g.S.Source.left c.loop-bytes.source) (g.S.Source.left c.turn.new.source) c.loop-bytes.bytes.items
        c.loop-bytes.invariant.came c.in_err-n.ensures.bytes;
  };
  rest = search rules;
  tells = search rules;
}

pub returns-then-n-eq0-clause-reads : goal.returns-then-n-eq0-clause-reads
returns-then-n-eq0-clause-reads g c = record {
  all_given =
      gives_none (g.S.Source.given c.args.source.now) (g.S.Source.given c.loop-bytes.source) (g.S.Source.given c.turn.new.source) c.loop-bytes.bytes.items c.turn.new.piece
      c.in_ok-n.n c.if-n-eq0.true c.loop-bytes.invariant.given c.in_ok-n.ensures.given;
  ended = search rules;
  within = search rules;
  whole = search rules;
  end = search rules;
  more_given = search rules;
  too_long = search rules;
  fault = search rules;
  counted = search rules;
  later = search rules;
  memory = search rules;
  front =
      front_more (g.S.Source.given c.args.source.now) (g.S.Source.given c.loop-bytes.source) (g.S.Source.given c.turn.new.source) (g.S.Source.left c.args.source.now)
      (g.S.Source.left c.loop-bytes.source) (g.S.Source.left c.turn.new.source) c.loop-bytes.bytes.items (take c.in_ok-n.n c.turn.new.piece)
      c.loop-bytes.invariant.given c.in_ok-n.ensures.given c.loop-bytes.invariant.came c.in_ok-n.ensures.bytes.0;
  rest = search rules;
  tells = search rules;
}

pub returns-then-n-room-clause-reads : goal.returns-then-n-room-clause-reads
returns-then-n-room-clause-reads g c =
    let came = c.loop-bytes.bytes.items in
    let last = take c.in_ok-n.n c.turn.new.piece in
    let off =
    consumes_more (g.S.Source.left c.args.source.now) (g.S.Source.left c.loop-bytes.source) (g.S.Source.left c.turn.new.source) came last
    c.loop-bytes.invariant.came c.in_ok-n.ensures.bytes.0 in
    let much = longer came c.turn.new.piece c.in_ok-n.n c.args.limit c.in_ok-n.ensures.bound (omega arith) (omega arith) in
    record {
      all_given = search rules;
      ended = search rules;
      within = search rules;
      whole = search rules;
      end = search rules;
      more_given = λ fault. (
        came ++ last,
        gives_more (g.S.Source.given c.args.source.now) (g.S.Source.given c.loop-bytes.source) (g.S.Source.given c.turn.new.source) came last
            c.loop-bytes.invariant.given c.in_ok-n.ensures.given,
        much,
      );
      too_long = λ fault. had_more (g.S.Source.left c.args.source.now) (g.S.Source.left c.turn.new.source) (came ++ last) c.args.limit off much;
      fault = search rules;
      counted = search rules;
      later = search rules;
      memory = search rules;
      front =
          front_more (g.S.Source.given c.args.source.now) (g.S.Source.given c.loop-bytes.source) (g.S.Source.given c.turn.new.source) (g.S.Source.left c.args.source.now)
          (g.S.Source.left c.loop-bytes.source) (g.S.Source.left c.turn.new.source) c.loop-bytes.bytes.items (take c.in_ok-n.n c.turn.new.piece)
          c.loop-bytes.invariant.given c.in_ok-n.ensures.given c.loop-bytes.invariant.came c.in_ok-n.ensures.bytes.0;
      rest = (came ++ last, off);
      tells = search rules;
    }

pub returns-in-Err-clause-reads : goal.returns-in-Err-clause-reads
returns-in-Err-clause-reads g c =
    let came = c.loop-bytes.bytes.items in
    let last = take c.in_ok-n.n c.turn.new.piece in
    record {
      all_given = search rules;
      ended = search rules;
      within = search rules;
      whole = search rules;
      end = search rules;
      more_given = search rules;
      too_long = search rules;
      fault = search rules;
      counted = search rules;
      later = search rules;
      memory = λ fault. (
        came ++ last,
        gives_more (g.S.Source.given c.args.source.now) (g.S.Source.given c.loop-bytes.source) (g.S.Source.given c.turn.new.source) came last
            c.loop-bytes.invariant.given c.in_ok-n.ensures.given,
        some_more came c.turn.new.piece c.in_ok-n.n c.in_ok-n.ensures.bound c.if-n-eq0.false,
      );
      front =
          front_more (g.S.Source.given c.args.source.now) (g.S.Source.given c.loop-bytes.source) (g.S.Source.given c.turn.new.source) (g.S.Source.left c.args.source.now)
          (g.S.Source.left c.loop-bytes.source) (g.S.Source.left c.turn.new.source) c.loop-bytes.bytes.items (take c.in_ok-n.n c.turn.new.piece)
          c.loop-bytes.invariant.given c.in_ok-n.ensures.given c.loop-bytes.invariant.came c.in_ok-n.ensures.bytes.0;
      rest = (
        came ++ last,
        consumes_more (g.S.Source.left c.args.source.now) (g.S.Source.left c.loop-bytes.source) (g.S.Source.left c.turn.new.source) came last
            c.loop-bytes.invariant.came c.in_ok-n.ensures.bytes.0,
      );
      tells = search rules;
    }
