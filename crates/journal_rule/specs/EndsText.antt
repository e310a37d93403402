-- What the joins of a run on threads tell, by its journal: this project's own choice.
use Rattle.std.specs.Prelude.{ℕ, ◌==◌, List, [], ◌∷◌, Option, None, Some, if◌then◌else◌}
use Rattle.std.specs.Option.{option_map_or, option_and_then}
use Rattle.std.specs.List.{list_any}
use Rattle.rpc_model.specs.declared.event.End.{End}
use Rattle.rpc_model.specs.declared.kinds.MapKind.{MapKind}
use Rattle.rpc_model.specs.declared.kinds.MergeKind.{MergeKind}
use Rattle.rpc_model.specs.declared.script.Script.{Script}
use Rattle.rpc_model.specs.declared.script.Act.{Act}
use Rattle.rpc_model.specs.declared.script.Act.TheVariants.{Call, Cancel, Reply, Lose, Tick, Join}
use Rattle.rpc_model.specs.declared.told.Told.{Told}
use Rattle.rpc_model.specs.declared.told.Told.TheVariants.{Ended, Unended, Gone}
use Rattle.rpc_model.specs.declared.journal.CallLog.{CallLog}
use Rattle.rpc_model.specs.declared.journal.Journal.{Journal}
use Rattle.rpc_model.specs.State.{Run, end_of, attempts}
use Rattle.rpc_model.specs.Text.{told_text}
use Rattle.journal_rule.specs.Calls.{call_of}
use Rattle.journal_rule.specs.Runs.{run_of}

abbrev pub end_told : ℕ → ℕ → Option End → Told
end_told number issued None = Unended number
end_told number issued (Some end) = Ended number end issued

abbrev pub run_told : ℕ → Run MapKind MergeKind → Told
run_told number run = end_told number (attempts run.state) (end_of run.state)

-- the run of the journal's call of this number, through its log
abbrev pub journal_run : Script → Journal → ℕ → Option (Run MapKind MergeKind)
journal_run script journal number = option_and_then (λ (call : CallLog). run_of script call call.log) (call_of journal number)

-- The end of a call and its attempts. A call without an end is told as open, which no lawful journal has.
abbrev pub first_told : Script → Journal → ℕ → Told
first_told script journal number = option_map_or (run_told number) (journal_run script journal number) (Unended number)

-- A call's first join tells its end, and each later one that it is gone.
abbrev pub join_told : Script → Journal → List ℕ → ℕ → Told
join_told script journal joined number = if list_any (λ (n : ℕ). n == number) joined then Gone number else first_told script journal number

-- what the joins tell from here on, where those of these calls came before
abbrev pub ends_from : Script → Journal → List ℕ → List Act → List Told
ends_from script journal joined [] = []
ends_from script journal joined (Call at call chan text ∷ acts) = ends_from script journal joined acts
ends_from script journal joined (Cancel at call ∷ acts) = ends_from script journal joined acts
ends_from script journal joined (Reply at call node attempt code text ∷ acts) = ends_from script journal joined acts
ends_from script journal joined (Lose at call node attempt code ∷ acts) = ends_from script journal joined acts
ends_from script journal joined (Tick at ∷ acts) = ends_from script journal joined acts
ends_from script journal joined (Join call ∷ acts) = join_told script journal joined call ∷ ends_from script journal (call ∷ joined) acts

-- a line for each join line of the script, in order
abbrev pub ends_text : Script → Journal → List ℕ
ends_text script journal = told_text (ends_from script journal [] script.acts)
