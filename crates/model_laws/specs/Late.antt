-- What comes to a call that has its end already. This project's own choice.
use Rattle.std.specs.Prelude.{◌≡◌, ℕ, max, List, ◌∷◌, ◌++◌, find, Option, None, Some, is_some, IsTrue}
use Rattle.rpc_model.specs.declared.script.Act.{Act}
use Rattle.rpc_model.specs.declared.script.Act.TheVariants.{Call, Cancel, Reply, Lose, Tick, Join}
use Rattle.rpc_model.specs.declared.script.Script.{Script}
use Rattle.rpc_model.specs.State.{end_of}
use Rattle.rpc_model.specs.Marks.{weave}
use Rattle.rpc_model.specs.Told.{Standing, begun, full, told_of, unbegun, is_call, told_from, told}
use Rattle.model_laws.specs.Logs.{after_all}

-- a reply, a loss or a cancel of this call at this time
abbrev pub BringsTo : ℕ → ℕ → Act → Type 0
BringsTo c at (Call t call chan text) = ⊥
BringsTo c at (Cancel t call) = (t ≡ at) × (call ≡ c)
BringsTo c at (Reply t call node attempt code text) = (t ≡ at) × (call ≡ c)
BringsTo c at (Lose t call node attempt code) = (t ≡ at) × (call ≡ c)
BringsTo c at (Tick t) = ⊥
BringsTo c at (Join call) = ⊥

-- a call that has an end once its marks up to this moment were taken, or that was told, or that found no slot
abbrev pub IsOver : ℕ → Option Standing → Type 0
IsOver moment None = ⊥
IsOver moment (Some (begun b)) = IsTrue (is_some (end_of (weave moment b).state))
IsOver moment (Some (full call)) = Unit {0}
IsOver moment (Some (told_of call)) = Unit {0}

-- A line that brings something to a call that is over by then changes nothing that is told, be it of this call or of another: the script tells what it tells with a tick in the line's place.
abbrev pub LateLinesTellNothing : Type 0
LateLinesTellNothing = (script : Script) (before : List Act) (act : Act) (rest : List Act) (c at : ℕ) → script.acts ≡ before ++ act ∷ rest → BringsTo c at act
    → let replay = after_all script unbegun before in
    IsOver (max replay.reached at) (find (is_call c) replay.calls)
    → told script ≡ told_from script unbegun (before ++ Tick at ∷ rest)
