-- Each call of a lawful journal ends with the last entry of its log: this project's own choice.
use Rattle.std.specs.Prelude.{◌≡◌, Bool, true, ◌&&◌, List, [], ◌∷◌, length, take, All, None, is_some, is_none}
use Rattle.std.specs.List.{list_all}
use Rattle.rpc_model.specs.declared.script.Script.{Script}
use Rattle.rpc_model.specs.declared.entry.Entry.{Entry}
use Rattle.rpc_model.specs.declared.journal.CallLog.{CallLog}
use Rattle.rpc_model.specs.declared.journal.Journal.{Journal}
use Rattle.journal_rule.specs.Runs.{end_by}

-- without the last entry of the log there is no end; a log without entries has none to leave out
abbrev pub IsOpenBefore : Script → CallLog → List Entry → Type 0
IsOpenBefore script call [] = Unit {0}
IsOpenBefore script call (e ∷ log) = end_by script call (take (length log) (e ∷ log)) ≡ None

-- The call has an end by its log, and it was open before the last entry. Where the log is empty, it has its end at its start.
pub record EndsAtLast (script : Script) (call : CallLog) : Type 0 where
  pub ends : is_some (end_by script call call.log) ≡ true
  pub open_before : IsOpenBefore script call call.log

-- each call ends with its last entry
abbrev pub HasEnds : Script → Journal → Type 0
HasEnds script journal = All (EndsAtLast script) journal.calls

-- ---- computed

abbrev pub is_open_before : Script → CallLog → List Entry → Bool
is_open_before script call [] = true
is_open_before script call (e ∷ log) = is_none (end_by script call (take (length log) (e ∷ log)))

abbrev pub ends_at_last : Script → CallLog → Bool
ends_at_last script call = is_some (end_by script call call.log) && is_open_before script call call.log

abbrev pub has_ends : Script → Journal → Bool
has_ends script journal = list_all (ends_at_last script) journal.calls
