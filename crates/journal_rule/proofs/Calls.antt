-- Which calls are the script's is decided.
use Rattle.std.proofs.Common.{◌≡◌, ℕ, ◌+◌, ◌%◌, ◌==◌, ◌&&◌, nat_le, List, [], ◌∷◌, length, Option, Some, None, ap}
use Rattle.std.specs.Option.{option_map}
use Rattle.std.specs.Bool.{Decides}
use Rattle.std.proofs.lemmas.Bool.{false≢true}
use Rattle.std.proofs.lemmas.Bool.Decides.{Decides-eqb, Decides-and, Decides-like}
use Rattle.rpc_model.specs.declared.kinds.MapKind.{MapKind}
use Rattle.rpc_model.specs.declared.kinds.MergeKind.{MergeKind}
use Rattle.rpc_model.specs.declared.script.Script.{Script}
use Rattle.rpc_model.specs.declared.journal.CallLog.{CallLog}
use Rattle.rpc_model.specs.declared.journal.Journal.{Journal}
use Rattle.rpc_model.specs.Plan.{Plan}
use Rattle.rpc_model.specs.Versions.{width}
use Rattle.journal_rule.specs.Calls.{CallLine, call_lines, line_plan, IsCallOf, AreCallsOf, HasCalls, has_width, is_call_of, are_calls_of, has_calls}
use Rattle.journal_rule.proofs.Decided.{always, never, at_most, inside}

-- the plan has this width
wide : (n : ℕ) (plan : Option (Plan MapKind MergeKind)) → Decides (has_width n plan) (option_map width plan ≡ Some n)
wide n None = (λ h. absurd (false≢true h), λ h. absurd cc)
wide n (Some p) = Decides-like (width p == n) (λ e. ap Some e) (λ e. inside n (width p) e) (Decides-eqb (width p) n)

call_of_line : (script : Script) (lanes place : ℕ) (line : CallLine) (call : CallLog)
    → Decides (is_call_of script lanes place line call) (IsCallOf script lanes place line call)
call_of_line script lanes place line call =
    let w = has_width call.width (line_plan script line) in
    let m = nat_le line.at call.moment in
    Decides-like (is_call_of script lanes place line call)
    (λ h. record { number = h.0; lane = h.1.0; width = h.1.1.0; moment = h.1.1.1 })
    (λ (h : IsCallOf script lanes place line call). (h.number, (h.lane, (h.width, h.moment))))
    (Decides-and (call.call == line.call) (call.lane == place % lanes && (w && m)) (Decides-eqb call.call line.call)
    (Decides-and (call.lane == place % lanes) (w && m) (Decides-eqb call.lane (place % lanes))
    (Decides-and w m (wide call.width (line_plan script line)) (at_most line.at call.moment))))

calls_of_lines : (script : Script) (lanes place : ℕ) (lines : List CallLine) (calls : List CallLog)
    → Decides (are_calls_of script lanes place lines calls) (AreCallsOf script lanes place lines calls)
calls_of_lines script lanes place [] [] = always
calls_of_lines script lanes place [] (call ∷ calls) = never
calls_of_lines script lanes place (line ∷ lines) [] = never
calls_of_lines script lanes place (line ∷ lines) (call ∷ calls) =
    Decides-and (is_call_of script lanes place line call) (are_calls_of script lanes (place + 1) lines calls)
    (call_of_line script lanes place line call) (calls_of_lines script lanes (place + 1) lines calls)

pub calls_decided : (script : Script) (lanes : ℕ) (journal : Journal) → Decides (has_calls script lanes journal) (HasCalls script lanes journal)
calls_decided script lanes journal =
    let a = are_calls_of script lanes 0 (call_lines script) journal.calls in
    let w = length journal.wires == script.servers in
    let l = length journal.lanes == lanes in
    Decides-like (has_calls script lanes journal)
    (λ h. record { calls = h.0; wires = h.1.0; lists = h.1.1 })
    (λ (h : HasCalls script lanes journal). (h.calls, (h.wires, h.lists)))
    (Decides-and a (w && l) (calls_of_lines script lanes 0 (call_lines script) journal.calls)
    (Decides-and w l (Decides-eqb (length journal.wires) script.servers) (Decides-eqb (length journal.lanes) lanes)))
