-- A piece of policies more stands behind those before.
use Rattle.checkpoint_store.proofs.Names.{◌≡◌, ℕ, ◌+◌, ◌-◌, ◌*◌, ◌≤◌, List, length, take, drop, refl, sym, ◌∙◌, ap, arith, flat_map, Policy, policy_bytes}
use Rattle.std.proofs.lemmas.List.{length-drop, length-take-le}
use Rattle.checkpoint_store.proofs.Behind.{behind_long, policies_more}
use Rattle.checkpoint_store.proofs.GateSteps.{shut_on}
use Rattle.checkpoint_store.proofs.saving.write_policies.Goals as goal

pub loop-done-preserved : goal.loop-done-preserved
loop-done-preserved g c =
    let policies : List Policy = c.args.policies.now in
    let done : ℕ = c.loop-done.done in
    let many : ℕ = c.min-many.result in
    let was = c.loop-done.invariant in
    let within : done + many ≤ length policies = omega (arith, c.min-many.ensures, was.within) in
    let width : done + many - done ≡ many = omega arith in
    let part : List Policy = take (done + many - done) (drop done policies) in
    let same : part ≡ take many (drop done policies) = ap (λ k. take k (drop done policies)) width in
    let long : length part ≡ many = ap (λ (l : List Policy). length l) same ∙ length-take-le many (drop done policies) (omega (arith, length-drop done policies, within)) in
    let bytes : List ℕ = take (48 * many) c.fill.new.piece in
    let spelled : bytes ≡ flat_map policy_bytes (take many (drop done policies)) =
    ap (λ k. take k c.fill.new.piece) (ap (λ k. 48 * k) (sym long)) ∙ c.fill.ensures ∙ ap (λ (l : List Policy). flat_map policy_bytes l) same in
    let room : 48 * many ≤ length c.fill.new.piece = omega (arith, c.min-many.ensures, c.fill.array_long) in
    record {
      within = within;
      count = c.in_ok-write_behind.ensures.disk.disk.succeeded ∙ was.count;
      honesty = λ honest. was.honesty (c.write_behind.ensures.disk.honesty honest);
      long = λ honest.
          let before = was.long (c.write_behind.ensures.disk.honesty honest) in
          let after = behind_long (g.E.Disk.reads c.loop-done.disk) bytes (g.E.Disk.reads c.write_behind.new.disk) (64 + 48 * done) before (c.in_ok-write_behind.ensures.written honest) in
          omega (arith, after, length-take-le (48 * many) c.fill.new.piece room);
      longer = λ honest. omega (arith, was.longer (c.write_behind.ensures.disk.honesty honest), c.write_behind.ensures.longer honest);
      written = λ front honest size stands.
          let honest_old = c.write_behind.ensures.disk.honesty honest in
          policies_more front bytes (g.E.Disk.reads c.loop-done.disk) (g.E.Disk.reads c.write_behind.new.disk) policies done many (64 + 48 * done) refl was.within size spelled
          (was.long honest_old) (was.written front honest_old size stands) (c.in_ok-write_behind.ensures.written honest);
      shut = λ honest shut.
          let first = was.shut (c.write_behind.ensures.disk.honesty honest) shut in
          shut_on g.E.Disk c.args.disk.now c.loop-done.disk c.write_behind.new.disk first (c.write_behind.ensures.shut honest first.shut);
    }
