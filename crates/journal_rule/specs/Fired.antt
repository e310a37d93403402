-- The marks that fired in a lawful journal are marks that its calls set: this project's own choice.
use Rattle.std.specs.Prelude.{ℕ, ◌≤◌, ◌<◌, Bool, ◌==◌, ◌&&◌, nat_le, nat_lt, List, [], map, flat_map, count_by, All, Option, Some, if◌then◌else◌}
use Rattle.std.specs.Option.{option_map_or}
use Rattle.std.specs.List.{list_all}
use Rattle.rpc_model.specs.declared.codes.TheConstants.{EBACKUPREQUEST, ERPCTIMEDOUT}
use Rattle.rpc_model.specs.declared.kinds.MapKind.{MapKind}
use Rattle.rpc_model.specs.declared.kinds.MergeKind.{MergeKind}
use Rattle.rpc_model.specs.declared.meaning.Meaning.TheVariants.{Node}
use Rattle.rpc_model.specs.declared.script.Script.{Script}
use Rattle.rpc_model.specs.declared.journal.CallLog.{CallLog}
use Rattle.rpc_model.specs.declared.journal.Fired.{Fired}
use Rattle.rpc_model.specs.declared.journal.Journal.{Journal}
use Rattle.rpc_model.specs.Effects.{Mark}
use Rattle.rpc_model.specs.State.{Run}
use Rattle.journal_rule.specs.Calls.{plan_of}
use Rattle.journal_rule.specs.Runs.{run_of, id_of}
use Rattle.journal_rule.specs.Requests.{is_same_id}

-- a mark of the timer: its moment, the id of its node, and the code by which it is told
pub record Alarm : Type 0 where
  pub due : ℕ
  pub id : Option ℕ
  pub code : ℕ

abbrev pub alarm_of : Script → CallLog → Mark → Alarm
alarm_of script call m = record {
  due = m.moment;
  id = id_of (plan_of script call.call) call.first (Node m.node);
  code = if m.backup then EBACKUPREQUEST else ERPCTIMEDOUT;
}

-- what the machine of a call sets
abbrev pub alarms_of : Script → CallLog → List Alarm
alarms_of script call = option_map_or (λ (run : Run MapKind MergeKind). map (alarm_of script call) run.marks) (run_of script call call.log) []

abbrev pub set_alarms : Script → Journal → List Alarm
set_alarms script journal = flat_map (alarms_of script) journal.calls

abbrev pub alarm : Fired → Alarm
alarm m = record { due = m.due; id = Some m.id; code = m.code }

abbrev pub fired_alarms : Journal → List Alarm
fired_alarms journal = map alarm journal.marks

abbrev pub is_alarm : Alarm → Alarm → Bool
is_alarm a b = a.due == b.due && (is_same_id a.id b.id && a.code == b.code)

-- how often an alarm stands in a list
abbrev pub alarm_count : List Alarm → Alarm → ℕ
alarm_count list a = count_by (is_alarm a) list

-- A mark that fired is one that a call set, with its moment, node and kind. It fired once, and not before its moment.
pub record IsOneSet (set_by_calls fired : List Alarm) (m : Fired) : Type 0 where
  pub was_set : 0 < alarm_count set_by_calls (alarm m)
  pub once : alarm_count fired (alarm m) ≤ 1
  pub due : m.due ≤ m.now

abbrev pub HasMarks : Script → Journal → Type 0
HasMarks script journal = All (IsOneSet (set_alarms script journal) (fired_alarms journal)) journal.marks

-- ---- computed

abbrev pub is_one_set : List Alarm → List Alarm → Fired → Bool
is_one_set set_by_calls fired m =
    nat_lt 0 (alarm_count set_by_calls (alarm m)) && (nat_le (alarm_count fired (alarm m)) 1 && nat_le m.due m.now)

abbrev pub has_marks : Script → Journal → Bool
has_marks script journal = list_all (is_one_set (set_alarms script journal) (fired_alarms journal)) journal.marks
