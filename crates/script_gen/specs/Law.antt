-- What holds of every generated script.
use Rattle.std.specs.Prelude.{◌≡◌, ℕ, ◌≤◌, Ok}
use Rattle.rpc_model.specs.declared.script.Mode.TheVariants.{Sim}
use Rattle.rpc_model.specs.declared.script.Script.{Script}
use Rattle.rpc_model.specs.declared.limits.TheConstants.{SIM_CALL_LIMIT}
use Rattle.rpc_model.specs.Script.{script}
use Rattle.script_gen.specs.Generator.{generated}

-- the script grammar accepts the generated script of each number of calls from 1 to 100,000
abbrev pub GeneratedScriptsAreAccepted : Type 0
GeneratedScriptsAreAccepted = (count : ℕ) → 1 ≤ count → count ≤ SIM_CALL_LIMIT → (accepted : Script) × (script Sim (generated count) ≡ Ok accepted)
