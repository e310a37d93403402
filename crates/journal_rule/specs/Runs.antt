-- The plain machine of a call of a journal, through the events of its log: this project's own choice.
use Rattle.std.specs.Prelude.{ℕ, ◌+◌, ◌-◌, nat_le, List, map, Option, None, if◌then◌else◌}
use Rattle.std.specs.Option.{option_map, option_and_then}
use Rattle.rpc_model.specs.declared.event.End.{End}
use Rattle.rpc_model.specs.declared.event.Event.{Event}
use Rattle.rpc_model.specs.declared.kinds.MapKind.{MapKind}
use Rattle.rpc_model.specs.declared.kinds.MergeKind.{MergeKind}
use Rattle.rpc_model.specs.declared.meaning.Meaning.{Meaning}
use Rattle.rpc_model.specs.declared.script.Script.{Script}
use Rattle.rpc_model.specs.declared.entry.Entry.{Entry}
use Rattle.rpc_model.specs.declared.journal.CallLog.{CallLog}
use Rattle.rpc_model.specs.Kinds.{script_kinds}
use Rattle.rpc_model.specs.Plan.{Plan}
use Rattle.rpc_model.specs.Versions.{offset_of, meaning_of}
use Rattle.rpc_model.specs.State.{Run, end_of}
use Rattle.rpc_model.specs.Machine.{machine}
use Rattle.journal_rule.specs.Calls.{CallLine, line_of, line_plan}

-- the events of a log, each with its moment
abbrev pub timed : List Entry → List (Event × ℕ)
timed log = map (λ (e : Entry). (e.event, e.moment)) log

abbrev pub line_run : Script → CallLine → ℕ → List Entry → Option (Run MapKind MergeKind)
line_run script line moment log =
    option_map (λ (p : Plan MapKind MergeKind). machine script_kinds p line.call line.text moment (timed log)) (line_plan script line)

-- The call of a journal, with the script's plan and request for it, from its own start through the events of this log. There is no run where the script has no
-- such call.
abbrev pub run_of : Script → CallLog → List Entry → Option (Run MapKind MergeKind)
run_of script call log = option_and_then (λ (line : CallLine). line_run script line call.moment log) (line_of script call.call)

-- the end that the call has after this log
abbrev pub end_by : Script → CallLog → List Entry → Option End
end_by script call log = option_and_then (λ (run : Run MapKind MergeKind). end_of run.state) (run_of script call log)

-- ---- the ids of a call

-- the id of a node or an attempt, where the plan has it
abbrev pub id_of : Option (Plan MapKind MergeKind) → ℕ → Meaning → Option ℕ
id_of plan first meaning = option_and_then (λ (p : Plan MapKind MergeKind). option_map (λ (offset : ℕ). first + offset) (offset_of p meaning)) plan

-- what an id means to the call whose range begins with the first one
abbrev pub meaning_in : Option (Plan MapKind MergeKind) → ℕ → ℕ → Option Meaning
meaning_in plan first id = if nat_le first id then option_and_then (λ (p : Plan MapKind MergeKind). meaning_of p (id - first)) plan else None
