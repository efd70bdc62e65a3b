-- What those who run the generated lanes rest on
use Rattle.load_maker.proofs.Names.{◌≡◌, ℕ, List, ap, ◌∙◌, ◌≤◌, generated_rows, AreDealt, generated_lanes, lanes_up_to}
use Rattle.policy_types.specs.declared.script.Lane.{Lane}
use Rattle.load_maker.proofs.Drawing.{rows_counted, rows_right}
use Rattle.load_maker.proofs.Counting.{all_counted, all_valid, numbered}

pub lanes_dealt : (seed lanes count : ℕ) → 1 ≤ lanes → count ≤ 100000 → AreDealt lanes count (generated_lanes seed lanes count)
unfolding generated_lanes
lanes_dealt seed lanes count some few =
    let rows = generated_rows seed lanes count in
    let right = rows_right seed lanes count some few in
    let order = numbered lanes rows in
    record {
      rising = order.rising;
      few = order.few;
      lines = all_counted lanes rows right ∙ rows_counted seed lanes count;
      valid = all_valid lanes lanes rows right;
    }

pub all_lanes : (seed lanes count n : ℕ) (dealt result : List Lane) → n ≡ lanes
    → dealt ≡ lanes_up_to n (generated_rows seed lanes count) → result ≡ dealt → result ≡ generated_lanes seed lanes count
unfolding generated_lanes
all_lanes seed lanes count n dealt result all are is = is ∙ are ∙ ap (λ n. lanes_up_to n (generated_rows seed lanes count)) all
