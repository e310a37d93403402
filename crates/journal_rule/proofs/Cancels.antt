-- Whether cancels are the script's is decided.
use Rattle.std.proofs.Common.{◌≡◌, ℕ, bytes_eq}
use Rattle.std.specs.Bool.{Decides}
use Rattle.std.specs.List.{enumerate_from}
use Rattle.std.proofs.lemmas.Slice.Eq.{bytes_eq-Decides}
use Rattle.rpc_model.specs.declared.script.Script.{Script}
use Rattle.rpc_model.specs.declared.journal.LaneLog.{LaneLog}
use Rattle.rpc_model.specs.declared.journal.Journal.{Journal}
use Rattle.journal_rule.specs.Cancels.{cancels_of, ids_of, HasCancels, has_cancels}
use Rattle.journal_rule.proofs.Decided.{each}

pub cancels_decided : (script : Script) (journal : Journal) → Decides (has_cancels script journal) (HasCancels script journal)
cancels_decided script journal =
    each (λ (l : ℕ × LaneLog). bytes_eq (ids_of l.1) (cancels_of script journal l.0)) (λ (l : ℕ × LaneLog). ids_of l.1 ≡ cancels_of script journal l.0)
    (λ l. bytes_eq-Decides (ids_of l.1) (cancels_of script journal l.0)) (enumerate_from 0 journal.lanes)
