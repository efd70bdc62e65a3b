-- A script has one answer
use Rattle.command_csv.proofs.Names.{ℕ, List, ap, Result, Ok, Err, IfOk, IfErr, Lane, Reads}
use Rattle.command_csv.specs.declared.fault.ScriptFault.{ScriptFault}
use Rattle.command_csv.specs.declared.fault.ScriptFault.TheVariants.{BadRow, NoMemory}
use Rattle.command_csv.specs.Answers.{GivesScript, IsScriptAnswer}
use Rattle.command_csv.specs.Cause.{HasScriptCause}
use Rattle.command_csv.proofs.Faults.{fault_excludes, one_fault}
use Rattle.command_csv.proofs.OneReading.{one_reading}

pub gives_due : (bytes : List ℕ) (given answer : Result (List Lane) ScriptFault) → IfOk given (Reads bytes) → IfErr given (HasScriptCause bytes)
    → IsScriptAnswer bytes answer → GivesScript given answer
gives_due bytes (Ok lanes) (Ok others) right fault due = ap (λ (ls : List Lane). Ok ls) (one_reading bytes others lanes due right)
gives_due bytes (Ok lanes) (Err (BadRow row field)) right fault due = absurd (fault_excludes bytes row field lanes due right)
gives_due bytes (Ok lanes) (Err (NoMemory lack)) right fault due = absurd due
gives_due bytes (Err (BadRow row field)) (Ok lanes) right fault due = absurd (fault_excludes bytes row field lanes fault due)
gives_due bytes (Err (BadRow row field)) (Err (BadRow other place)) right fault due =
    let same = one_fault bytes other row place field due fault in cc
gives_due bytes (Err (BadRow row field)) (Err (NoMemory lack)) right fault due = absurd due
gives_due bytes (Err (NoMemory lack)) answer right fault due = tt
