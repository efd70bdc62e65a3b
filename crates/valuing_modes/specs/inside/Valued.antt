-- How the parts of `value` end
use Rattle.std.specs.Prelude.{ℕ, ℤ, List, ◌++◌, codes, decimal, Result, Ok, Err}
use Rattle.valuing_modes.specs.Names.{Rose, AppendsPart, Command, Dated, Stream, WroteAll, WroteLine, Ending, Ahead, Done, NoMemory, WriteFault, At, Measure, block_text, ValueFault}
use Rattle.policy_types.specs.declared.entry.PinRefusal.TheVariants.{Ahead as PastTheEnd}
use Rattle.program_endings.specs.Blocks.{IsWritableBlock}
use Rattle.snapshot_value.specs.declared.valuation.Valuation.{Valuation}
use Rattle.snapshot_value.specs.declared.valuation.ValueFault.TheVariants.{Pin, NoMemory as NoValues}
use Rattle.valuing_modes.specs.Valuing.{IsBeyond, IsValuation}

-- the line that says how many commands there are
abbrev pub SaysAhead : ℕ → Stream → Ending → Type 0
SaysAhead count output Ahead = WroteLine output (codes "refused,ahead," ++ decimal count)
SaysAhead count output (NoMemory lack) = WroteLine output (codes "nomemory")
SaysAhead count output _ = ⊥

-- how the values of these commands' policies are written
abbrev pub EndsValued : List Command → ℤ → At → Measure → List Dated → Stream → Ending → Type 0
EndsValued commands on at measure basis output Done = IsValuation commands on at measure basis (WroteAll output)
EndsValued commands on at measure basis output WriteFault =
    Rose output.faults_before output.faults_after
    × IsValuation commands on at measure basis (AppendsPart output.before output.after)
EndsValued commands on at measure basis output Ahead = IsBeyond commands at output
EndsValued commands on at measure basis output (NoMemory lack) = WroteLine output (codes "nomemory")
EndsValued commands on at measure basis output _ = ⊥

-- the results while nobody else holds a pin or trims: the rows, which can be written; or that there are fewer
-- commands; or that memory was refused
abbrev pub IsLoneAnswer : Result Valuation ValueFault → Type 0
IsLoneAnswer (Ok valuation) = IsWritableBlock valuation
IsLoneAnswer (Err (NoValues lack)) = Unit {0}
IsLoneAnswer (Err (Pin (PastTheEnd count))) = Unit {0}
IsLoneAnswer (Err (Pin refusal)) = ⊥

-- how the answer is written
abbrev pub EndsAnswer : ℤ → Result Valuation ValueFault → Stream → Ending → Type 0
EndsAnswer on (Ok valuation) output Done = WroteAll output (block_text 0 on valuation.position valuation.measure valuation.rows)
EndsAnswer on (Ok valuation) output WriteFault =
    Rose output.faults_before output.faults_after
    × AppendsPart output.before output.after (block_text 0 on valuation.position valuation.measure valuation.rows)
EndsAnswer on (Ok valuation) output (NoMemory lack) = WroteLine output (codes "nomemory")
EndsAnswer on (Err (Pin (PastTheEnd count))) output ending = SaysAhead count output ending
EndsAnswer on (Err (NoValues lack)) output (NoMemory other_lack) = WroteLine output (codes "nomemory")
EndsAnswer _ _ _ _ = ⊥
