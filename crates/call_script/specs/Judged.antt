-- What a result of the reader's code says of the script grammar's answer. This project's own choice.
use Rattle.std.specs.Prelude.{◌≡◌, ℕ, Result, Ok, Err}
use Rattle.rpc_model.specs.Before.{Before}
use Rattle.rpc_model.specs.declared.script.Script.{Script}
use Rattle.rpc_model.specs.declared.script.Cause.{Cause}
use Rattle.call_script.specs.declared.fault.ScriptFault.{ScriptFault}
use Rattle.call_script.specs.declared.fault.ScriptFault.TheVariants as fault
use Rattle.call_script.specs.declared.fault.ScriptFault.TheVariants.{Bad}
use Rattle.call_script.specs.declared.fault.LineFault.{LineFault}
use Rattle.call_script.specs.declared.fault.LineFault.TheVariants.{Refused, Memory}

-- what was found, seen by a view, is what the grammar gives, and a cause is the grammar's, unless memory ran out
abbrev pub Gives : {X Y : Type 0} → (X → Y) → Result X LineFault → Result Y Cause → Type 0
Gives view (Ok found) said = said ≡ Ok (view found)
Gives view (Err (Refused cause)) said = said ≡ Err cause
Gives view (Err Memory) said = Unit {0}

-- what the reader stands for after a line is what the grammar says, and a cause is the grammar's, unless memory ran out
abbrev pub Judged : {X : Type 0} → Result X LineFault → Before → Result Before Cause → Type 0
Judged result after said = Gives (λ done. after) result said

-- the fault of a script whose line of this number has this fault
abbrev pub line_fault_at : ℕ → LineFault → ScriptFault
line_fault_at number (Refused cause) = Bad number cause
line_fault_at number Memory = fault.Memory

-- the lines were judged as the grammar judges them, unless memory ran out
abbrev pub SaysLines : Result Before ScriptFault → Result Before (ℕ × Cause) → Type 0
SaysLines (Ok before) said = said ≡ Ok before
SaysLines (Err (Bad line cause)) said = said ≡ Err (line, cause)
SaysLines (Err fault.Memory) said = Unit {0}

-- a script was read as the grammar reads it, unless memory ran out
abbrev pub Reads : Result Script ScriptFault → Result Script (ℕ × Cause) → Type 0
Reads (Ok read) said = said ≡ Ok read
Reads (Err (Bad line cause)) said = said ≡ Err (line, cause)
Reads (Err fault.Memory) said = Unit {0}
