-- The calls of a lawful journal are the script's: this project's own choice.
use Rattle.std.specs.Prelude.{◌≡◌, ℕ, ◌+◌, ◌%◌, ◌≤◌, Bool, true, false, ◌==◌, ◌&&◌, nat_le, List, [], ◌∷◌, length, find, filter_map, Option, None, Some}
use Rattle.std.specs.Option.{option_map, option_and_then}
use Rattle.rpc_model.specs.declared.kinds.MapKind.{MapKind}
use Rattle.rpc_model.specs.declared.kinds.MergeKind.{MergeKind}
use Rattle.rpc_model.specs.declared.script.Script.{Script}
use Rattle.rpc_model.specs.declared.script.Act.{Act}
use Rattle.rpc_model.specs.declared.script.Act.TheVariants.{Call, Cancel, Reply, Lose, Tick, Join}
use Rattle.rpc_model.specs.declared.journal.CallLog.{CallLog}
use Rattle.rpc_model.specs.declared.journal.Journal.{Journal}
use Rattle.rpc_model.specs.Plan.{Plan, plan}
use Rattle.rpc_model.specs.Versions.{width}

-- ---- the call lines of a script

-- a call line: its moment, the call's number, the channel's and the request
pub record CallLine : Type 0 where
  pub at : ℕ
  pub call : ℕ
  pub chan : ℕ
  pub text : List ℕ

abbrev pub call_line : Act → Option CallLine
call_line (Call at call chan text) = Some (record { at = at; call = call; chan = chan; text = text })
call_line (Cancel at call) = None
call_line (Reply at call node attempt code text) = None
call_line (Lose at call node attempt code) = None
call_line (Tick at) = None
call_line (Join call) = None

-- in the order of the script
abbrev pub call_lines : Script → List CallLine
call_lines script = filter_map call_line script.acts

-- the line that begins the call of this number
abbrev pub line_of : Script → ℕ → Option CallLine
line_of script number = find (λ (line : CallLine). line.call == number) (call_lines script)

abbrev pub line_plan : Script → CallLine → Option (Plan MapKind MergeKind)
line_plan script line = plan script.chans line.chan line.call

-- the plan of the call of this number
abbrev pub plan_of : Script → ℕ → Option (Plan MapKind MergeKind)
plan_of script number = option_and_then (line_plan script) (line_of script number)

-- ---- the calls of a journal

-- the call of this number
abbrev pub call_of : Journal → ℕ → Option CallLog
call_of journal number = find (λ (call : CallLog). call.call == number) journal.calls

-- A call is that of a line at this place among the lines, where a run has so many lanes: calls go to the lanes in turn.
pub record IsCallOf (script : Script) (lanes place : ℕ) (line : CallLine) (call : CallLog) : Type 0 where
  pub number : call.call ≡ line.call
  pub lane : call.lane ≡ place % lanes
  pub width : option_map width (line_plan script line) ≡ Some call.width
  pub moment : line.at ≤ call.moment

-- from this place on, the calls are those of the lines, in order
abbrev pub AreCallsOf : Script → ℕ → ℕ → List CallLine → List CallLog → Type 0
AreCallsOf script lanes place [] [] = Unit {0}
AreCallsOf script lanes place [] (call ∷ calls) = ⊥
AreCallsOf script lanes place (line ∷ lines) [] = ⊥
AreCallsOf script lanes place (line ∷ lines) (call ∷ calls) = IsCallOf script lanes place line call × AreCallsOf script lanes (place + 1) lines calls

-- The calls are those of the script's call lines, in order, and there are a wire for each server and a list for each lane.
pub record HasCalls (script : Script) (lanes : ℕ) (journal : Journal) : Type 0 where
  pub calls : AreCallsOf script lanes 0 (call_lines script) journal.calls
  pub wires : length journal.wires ≡ script.servers
  pub lists : length journal.lanes ≡ lanes

-- ---- computed

abbrev pub has_width : ℕ → Option (Plan MapKind MergeKind) → Bool
has_width number None = false
has_width number (Some plan) = width plan == number

abbrev pub is_call_of : Script → ℕ → ℕ → CallLine → CallLog → Bool
is_call_of script lanes place line call =
    call.call == line.call && (call.lane == place % lanes && (has_width call.width (line_plan script line) && nat_le line.at call.moment))

abbrev pub are_calls_of : Script → ℕ → ℕ → List CallLine → List CallLog → Bool
are_calls_of script lanes place [] [] = true
are_calls_of script lanes place [] (call ∷ calls) = false
are_calls_of script lanes place (line ∷ lines) [] = false
are_calls_of script lanes place (line ∷ lines) (call ∷ calls) = is_call_of script lanes place line call && are_calls_of script lanes (place + 1) lines calls

abbrev pub has_calls : Script → ℕ → Journal → Bool
has_calls script lanes journal =
    are_calls_of script lanes 0 (call_lines script) journal.calls && (length journal.wires == script.servers && length journal.lanes == lanes)
