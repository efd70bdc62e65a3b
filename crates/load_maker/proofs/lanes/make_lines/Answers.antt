use Rattle.load_maker.proofs.Names.{ap, ◌∙◌, Vec, Global, Line, policy_drawn}
use Rattle.load_maker.proofs.Dealing.{none_dealt, dealt_here, dealt_elsewhere, drawn_next, from_seed}
use Rattle.load_maker.proofs.lanes.make_lines.Goals as goal
use Rattle.load_maker.proofs.lanes.make_lines.Goals.{then-dealt_to-lane+in_ok-add_lines, else-dealt_to-lane}

pub loop-before-init : goal.loop-before-init
loop-before-init c = (
  from_seed c.args.seed c.new-generator.result.state c.new-generator.ensures,
  none_dealt c.args.seed c.args.lanes c.args.lane c.new-lines.result.items c.new-lines.ensures.items,
)

pub loop-before-preserved : goal.loop-before-preserved
loop-before-preserved c =
    let state = drawn_next c.args.seed c.loop-before.before c.loop-before.generator.state c.next_policy-policy.new.self.state
    c.loop-before.invariant.0 c.next_policy-policy.ensures.state in (
      state,
      elim c.if-dealt_to-lane.branch [
        | then-dealt_to-lane+in_ok-add_lines w ↦ (
            let drawn = c.next_policy-policy.ensures.policy ∙ ap policy_drawn c.loop-before.invariant.0 in
            let more = dealt_here c.args.seed c.args.lanes c.args.lane c.loop-before.before c.loop-before.lines.items w.add_lines.new.lines.items
            c.next_policy-policy.result w.if-dealt_to-lane.true drawn c.loop-before.invariant.1 w.in_ok-add_lines.ensures in
            ap (λ (lines : Vec Line Global). lines.items) w.lines-is ∙ more)
        | else-dealt_to-lane w ↦ (
            let same = dealt_elsewhere c.args.seed c.args.lanes c.args.lane c.loop-before.before c.loop-before.lines.items
            w.if-dealt_to-lane.false c.loop-before.invariant.1 in
            ap (λ (lines : Vec Line Global). lines.items) w.lines-is ∙ same)
      ],
    )
