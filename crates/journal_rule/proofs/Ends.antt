-- Whether calls end with their last entries is decided.
use Rattle.std.proofs.Common.{List, [], ◌∷◌, length, take, is_some}
use Rattle.std.specs.Bool.{Decides}
use Rattle.std.proofs.lemmas.Bool.Decides.{Decides-and, Decides-like}
use Rattle.rpc_model.specs.declared.script.Script.{Script}
use Rattle.rpc_model.specs.declared.entry.Entry.{Entry}
use Rattle.rpc_model.specs.declared.journal.CallLog.{CallLog}
use Rattle.rpc_model.specs.declared.journal.Journal.{Journal}
use Rattle.journal_rule.specs.Runs.{end_by}
use Rattle.journal_rule.specs.Ends.{IsOpenBefore, EndsAtLast, HasEnds, is_open_before, ends_at_last, has_ends}
use Rattle.journal_rule.proofs.Decided.{always, itself, nothing, each}

open_before : (script : Script) (call : CallLog) (log : List Entry) → Decides (is_open_before script call log) (IsOpenBefore script call log)
open_before script call [] = always
open_before script call (e ∷ log) = nothing (end_by script call (take (length log) (e ∷ log)))

end_decided : (script : Script) (call : CallLog) → Decides (ends_at_last script call) (EndsAtLast script call)
end_decided script call =
    let b = is_some (end_by script call call.log) in
    Decides-like (ends_at_last script call)
    (λ h. record { ends = h.0; open_before = h.1 })
    (λ (h : EndsAtLast script call). (h.ends, h.open_before))
    (Decides-and b (is_open_before script call call.log) (itself b) (open_before script call call.log))

pub ends_decided : (script : Script) (journal : Journal) → Decides (has_ends script journal) (HasEnds script journal)
ends_decided script journal = each (ends_at_last script) (EndsAtLast script) (end_decided script) journal.calls
