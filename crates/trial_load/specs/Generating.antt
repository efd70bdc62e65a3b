-- How `generate` ends
use Rattle.std.specs.Prelude.{ℕ, codes}
use Rattle.trial_load.specs.Names.{Stream, WroteAll, WroteLine, WrotePart, Ending, Done, WriteFault, NoMemory, generated_text}

-- the generated script was written, whole or a prefix of it where the output failed, or there was no memory for it
abbrev pub EndsGenerate : (seed count lanes : ℕ) → Stream → Ending → Type 0
EndsGenerate seed count lanes output Done = WroteAll output (generated_text seed lanes count)
EndsGenerate seed count lanes output WriteFault = WrotePart output (generated_text seed lanes count)
EndsGenerate seed count lanes output (NoMemory lack) = WroteLine output (codes "nomemory")
EndsGenerate seed count lanes output _ = ⊥
