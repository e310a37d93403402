-- The cancels of a lawful journal are the script's, on the lanes of their calls: this project's own choice.
use Rattle.std.specs.Prelude.{◌≡◌, ℕ, Bool, ◌==◌, List, [], ◌∷◌, map, flat_map, All, bytes_eq, Option, None, Some, if◌then◌else◌}
use Rattle.std.specs.List.{list_all, enumerate_from}
use Rattle.rpc_model.specs.declared.script.Script.{Script}
use Rattle.rpc_model.specs.declared.script.Act.{Act}
use Rattle.rpc_model.specs.declared.script.Act.TheVariants.{Call, Cancel, Reply, Lose, Tick, Join}
use Rattle.rpc_model.specs.declared.journal.CallLog.{CallLog}
use Rattle.rpc_model.specs.declared.journal.CancelNote.{CancelNote}
use Rattle.rpc_model.specs.declared.journal.LaneLog.{LaneLog}
use Rattle.rpc_model.specs.declared.journal.Journal.{Journal}
use Rattle.journal_rule.specs.Calls.{call_of}

-- the first id of a call of this lane
abbrev pub id_on_lane : ℕ → Option CallLog → List ℕ
id_on_lane lane None = []
id_on_lane lane (Some call) = if call.lane == lane then call.first ∷ [] else []

abbrev pub act_cancels : Journal → ℕ → Act → List ℕ
act_cancels journal lane (Call at call chan text) = []
act_cancels journal lane (Cancel at call) = id_on_lane lane (call_of journal call)
act_cancels journal lane (Reply at call node attempt code text) = []
act_cancels journal lane (Lose at call node attempt code) = []
act_cancels journal lane (Tick at) = []
act_cancels journal lane (Join call) = []

-- the first ids of the calls that the script's cancel lines of this lane's calls name, in order
abbrev pub cancels_of : Script → Journal → ℕ → List ℕ
cancels_of script journal lane = flat_map (act_cancels journal lane) script.acts

abbrev pub ids_of : LaneLog → List ℕ
ids_of lane = map (λ (c : CancelNote). c.id) lane.cancels

-- the cancels of each lane are the script's cancel lines of its calls, in order
abbrev pub HasCancels : Script → Journal → Type 0
HasCancels script journal = All (λ (l : ℕ × LaneLog). ids_of l.1 ≡ cancels_of script journal l.0) (enumerate_from 0 journal.lanes)

-- ---- computed

abbrev pub has_cancels : Script → Journal → Bool
has_cancels script journal = list_all (λ (l : ℕ × LaneLog). bytes_eq (ids_of l.1) (cancels_of script journal l.0)) (enumerate_from 0 journal.lanes)
