use Rattle.snapshot_value.proofs.Names.{◌≤◌, rules, arith, reads_needed}
use Rattle.snapshot_value.proofs.PinSteps.{known}
use Rattle.snapshot_value.proofs.ReadSteps.{first_all, first_few, first_left, first_more, first_none, has_all, lacking, made_of_reads, part_few, part_sound, some_more, some_none}
use Rattle.snapshot_value.proofs.reading.read_parts.Goals as goal

pub returns-in_err-batch-clause-made : goal.returns-in_err-batch-clause-made
returns-in_err-batch-clause-made g c =
    lacking c.args.pin.now (g.T.Reader.gives c.args.plan) c.args.pass.now _ _ (some_none c.args.pin.now c.args.pass.now) (search rules)

pub returns-in_err-reader-clause-made : goal.returns-in_err-reader-clause-made
returns-in_err-reader-clause-made g c =
    lacking c.args.pin.now (g.T.Reader.gives c.args.plan) c.args.pass.now _ _ (some_none c.args.pin.now c.args.pass.now) (search rules)

pub loop-k-init : goal.loop-k-init
loop-k-init g c = record {
  facts = c.requires.facts;
  pins = λ pin held. held;
  read = first_none c.args.pin.now (g.T.Reader.has_read c.args.plan c.in_ok-reader.reader) c.args.pass.now c.in_ok-reader.ensures;
}

pub read_part-requires-clause-left : goal.read_part-requires-clause-left
read_part-requires-clause-left g c =
    first_left c.args.pin.now (g.T.Reader.has_read c.args.plan c.loop-k.reader) c.loop-k.k c.args.pass.now c.loop-k.pass
    (known c.args.pass.now c.args.pin.now c.requires.facts c.requires.held) c.loop-k.invariant.read
    (omega (arith, c.loop-k-test.true, c.parts_of-k-end.ensures, c.policies.ensures)) (omega (arith, c.requires.left))

pub part-requires-clause-begun : goal.part-requires-clause-begun
part-requires-clause-begun g c = (
  c.args.plan,
  (
    _,
    c.loop-k.invariant.read.has,
    rw c.policies-in-loop-k.ensures
        (part_few c.args.pin.now (g.T.Reader.has_read c.args.plan c.loop-k.reader) c.loop-k.k c.args.pass.now c.loop-k.pass
        (known c.args.pass.now c.args.pin.now c.requires.facts c.requires.held) c.loop-k.invariant.read c.read_part.new.batch c.read_part.new.pass
        c.read_part.ensures.read),
  ),
)

pub part-requires-clause-sound : goal.part-requires-clause-sound
part-requires-clause-sound g c =
    rw c.policies-in-loop-k.ensures
    (part_sound c.args.pin.now (g.T.Reader.has_read c.args.plan c.loop-k.reader) c.loop-k.k c.args.pass.now c.loop-k.pass
    (known c.args.pass.now c.args.pin.now c.requires.facts c.requires.held) c.loop-k.invariant.read c.read_part.new.batch c.read_part.new.pass
    c.read_part.ensures.read)

pub returns-in_err-part-clause-made : goal.returns-in_err-part-clause-made
returns-in_err-part-clause-made g c =
    lacking c.args.pin.now (g.T.Reader.gives c.args.plan) c.args.pass.now _ _
    (some_more c.args.pin.now (g.T.Reader.has_read c.args.plan c.loop-k.reader) c.loop-k.k c.args.pass.now c.loop-k.pass
    (known c.args.pass.now c.args.pin.now c.requires.facts c.requires.held) c.loop-k.invariant.read c.read_part.new.batch c.read_part.new.pass
    c.read_part.ensures.read (omega (arith, c.loop-k-test.true, c.parts_of-k-end.ensures, c.policies.ensures))) (search rules)

pub loop-k-preserved : goal.loop-k-preserved
loop-k-preserved g c = record {
  facts = c.read_part.ensures.facts;
  pins = λ pin held. c.read_part.ensures.pins pin (c.loop-k.invariant.pins pin held);
  read = first_more c.args.pin.now (g.T.Reader.has_read c.args.plan c.loop-k.reader) c.loop-k.k c.args.pass.now c.loop-k.pass
      (known c.args.pass.now c.args.pin.now c.requires.facts c.requires.held) c.loop-k.invariant.read c.read_part.new.batch c.read_part.new.pass
      c.read_part.ensures.read (omega (arith, c.loop-k-test.true, c.parts_of-k-end.ensures, c.policies.ensures))
      (g.T.Reader.has_read c.args.plan c.part.new.self)
      (rw c.policies-in-loop-k.ensures at (c.in_ok-part.ensures c.args.plan _ c.loop-k.invariant.read.has));
}

pub make-requires-clause-read : goal.make-requires-clause-read
make-requires-clause-read g c κs within =
    let is = known c.args.pass.now c.args.pin.now c.requires.facts c.requires.held in
    (c.args.plan, (_, c.loop-k.invariant.read.has, first_few c.args.pin.now c.loop-k.k c.args.pass.now is))

pub returns-clause-made : goal.returns-clause-made
returns-clause-made g c =
    let is = known c.args.pass.now c.args.pin.now c.requires.facts c.requires.held in
    let enough : reads_needed c.args.pin.now.policies ≤ c.loop-k.k = omega (arith, c.loop-k-test.false, c.parts_of-k-end.ensures, c.policies.ensures) in
    let all = has_all c.args.pin.now (g.T.Reader.has_read c.args.plan c.loop-k.reader) c.loop-k.k c.args.pass.now c.loop-k.pass is c.loop-k.invariant.read enough in
    made_of_reads c.args.pin.now (g.T.Reader.gives c.args.plan) c.args.pass.now c.loop-k.pass c.make.result
    (first_all c.args.pin.now (g.T.Reader.has_read c.args.plan c.loop-k.reader) c.loop-k.k c.args.pass.now c.loop-k.pass is c.loop-k.invariant.read enough)
    (c.make.ensures c.args.plan _ all (omega (arith, is.counted, is.few)) is.sound)
