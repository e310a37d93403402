-- What went out in a lawful journal is what the machines of its calls send: this project's own choice.
use Rattle.std.specs.Prelude.{◌≡◌, ℕ, ◌+◌, Bool, true, false, ◌==◌, ◌&&◌, List, [], ◌∷◌, ◌++◌, map, flat_map, count_by, bytes_eq, Option, None, Some}
use Rattle.std.specs.Option.{option_map_or}
use Rattle.std.specs.List.{list_all}
use Rattle.rpc_model.specs.declared.kinds.MapKind.{MapKind}
use Rattle.rpc_model.specs.declared.kinds.MergeKind.{MergeKind}
use Rattle.rpc_model.specs.declared.meaning.Meaning.TheVariants.{Attempt}
use Rattle.rpc_model.specs.declared.script.Script.{Script}
use Rattle.rpc_model.specs.declared.sent.Sent.{Sent}
use Rattle.rpc_model.specs.declared.journal.CallLog.{CallLog}
use Rattle.rpc_model.specs.declared.journal.WireLog.{WireLog}
use Rattle.rpc_model.specs.declared.journal.Journal.{Journal}
use Rattle.rpc_model.specs.Effects.{Send}
use Rattle.rpc_model.specs.State.{Run}
use Rattle.journal_rule.specs.Calls.{plan_of}
use Rattle.journal_rule.specs.Runs.{run_of, id_of}

-- a request on a wire; one of an attempt that the plan doesn't have would be without an id
pub record Request : Type 0 where
  pub wire : ℕ
  pub id : Option ℕ
  pub payload : List ℕ

-- ---- what the calls send

abbrev pub request_of : Script → CallLog → Send → Request
request_of script call send = record {
  wire = send.server;
  id = id_of (plan_of script call.call) call.first (Attempt send.node send.attempt);
  payload = send.payload;
}

-- what the machine of a call sends, each on the wire of its server and under its attempt's id
abbrev pub requests_of : Script → CallLog → List Request
requests_of script call = option_map_or (λ (run : Run MapKind MergeKind). map (request_of script call) run.sends) (run_of script call call.log) []

abbrev pub sent : Script → Journal → List Request
sent script journal = flat_map (requests_of script) journal.calls

-- ---- what went out

-- on the wires from this number on
abbrev pub out_from : ℕ → List WireLog → List Request
out_from wire [] = []
out_from wire (w ∷ wires) = map (λ (s : Sent). record { wire = wire; id = Some s.id; payload = s.payload }) w.out ++ out_from (wire + 1) wires

abbrev pub went_out : Journal → List Request
went_out journal = out_from 0 journal.wires

-- ---- each once

abbrev pub is_same_id : Option ℕ → Option ℕ → Bool
is_same_id None None = true
is_same_id None (Some m) = false
is_same_id (Some n) None = false
is_same_id (Some n) (Some m) = n == m

abbrev pub is_same : Request → Request → Bool
is_same r s = r.wire == s.wire && (is_same_id r.id s.id && bytes_eq r.payload s.payload)

-- how often a request stands in a list
abbrev pub times : List Request → Request → ℕ
times list r = count_by (is_same r) list

-- Each request went out as often as the machines of the calls send it.
abbrev pub HasRequests : Script → Journal → Type 0
HasRequests script journal = (r : Request) → times (went_out journal) r ≡ times (sent script journal) r

-- ---- computed

-- only requests that are in one of both lists need a look
abbrev pub has_requests : Script → Journal → Bool
has_requests script journal =
    let out = went_out journal in
    let sends = sent script journal in
    list_all (λ (r : Request). times out r == times sends r) out && list_all (λ (r : Request). times out r == times sends r) sends
