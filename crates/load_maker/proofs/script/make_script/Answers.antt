use Rattle.load_maker.proofs.Names.{◌≡◌, ℕ, suc, ◌+◌, ◌%◌, List, ◌++◌, ap, sym, ◌∙◌, add-one, state_after, policy_drawn, policy_rows, generated_rows, script_row_text}
use Rattle.std.specs.List.{flat_map}
use Rattle.std.proofs.lemmas.Grind.{flat_map-append}
use Rattle.load_maker.specs.GeneratedScript.{generated_text}
use Rattle.load_maker.specs.declared.generator.Drawn.{Drawn}
use Rattle.load_maker.proofs.Dealing.{drawn_next}
use Rattle.load_maker.proofs.script.make_script.Goals as goal

-- the rows of one more policy
written_more : (seed lanes n : ℕ) (lines more : List ℕ) (p : Drawn) → lines ≡ generated_text seed lanes n → p ≡ policy_drawn (state_after seed n)
    → more ≡ lines ++ flat_map script_row_text (policy_rows (1 + n % lanes) (n + 1) p) → more ≡ generated_text seed lanes (n + 1)
unfolding generated_text generated_rows
written_more seed lanes n lines more p before drawn added = rw add-one (
    let rows : Drawn → List ℕ = λ (q : Drawn). flat_map script_row_text (policy_rows (1 + n % lanes) (suc n) q) in
    let both = flat_map-append script_row_text (generated_rows seed lanes n) (policy_rows (1 + n % lanes) (suc n) (policy_drawn (state_after seed n))) in
    rw add-one at added ∙ ap (λ (text : List ℕ). text ++ rows p) before
    ∙ ap (λ (q : Drawn). flat_map script_row_text (generated_rows seed lanes n) ++ rows q) drawn ∙ sym both)

pub loop-before-preserved : goal.loop-before-preserved
loop-before-preserved c =
    let drawn = c.next_policy-policy.ensures.policy ∙ ap policy_drawn c.loop-before.invariant.0 in (
      drawn_next c.args.seed c.loop-before.before c.loop-before.generator.state c.next_policy-policy.new.self.state
          c.loop-before.invariant.0 c.next_policy-policy.ensures.state,
      written_more c.args.seed c.args.lanes c.loop-before.before c.loop-before.lines c.write_rows.new.lines
          c.next_policy-policy.result c.loop-before.invariant.1 drawn c.in_ok-write_rows.ensures,
    )
