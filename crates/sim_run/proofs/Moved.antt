-- A line of a replay whose calls took their due marks when the moment was reached does what it does in the plain machine's.
use Rattle.std.proofs.Common.{◌≡◌, ℕ, ◌≤◌, nat_le, List, count_by, Option, None, Some, Result, Ok, Err, OnOk, ap, sym, refl, ◌∙◌, arith}
use Rattle.rpc_model.specs.declared.event.Event.{Event}
use Rattle.rpc_model.specs.declared.script.Script.{Script}
use Rattle.rpc_model.specs.declared.kinds.MapKind.{MapKind}
use Rattle.rpc_model.specs.declared.kinds.MergeKind.{MergeKind}
use Rattle.rpc_model.specs.Plan.{Plan}
use Rattle.rpc_model.specs.Told.{Replay, is_begun, is_full, call_after, call_event, call_tells}
use Rattle.model_laws.specs.Early.{settled}
use Rattle.model_laws.proofs.Early.{event-line, call-line, count-settled}

-- What follows from a clause that holds where a call answers `Ok`.
pub on_ok : {A E : Type 0} (P Q : Type 0) (r : Result A E) → (P → Q) → OnOk r P → OnOk r Q
on_ok P Q (Ok x) f p = f p
on_ok P Q (Err e) f p = tt

-- an event of a call
pub event-step : (script : Script) (s t next : Replay) (m call : ℕ) (e : Event) → s.reached ≡ m → settled s ≡ settled (record t { reached = m }) → next ≡ call_event s s.reached call e
    → settled next ≡ settled (call_event t m call e)
event-step script s t next m call e reached alike after =
    let mine : settled next ≡ settled (call_event s m call e) = ap settled (after ∙ ap (λ n. call_event s n call e) reached) in
    let le : s.reached ≤ m = omega (arith, reached) in
    mine ∙ sym (event-line script s m call e le) ∙ ap (λ r. settled (call_event r m call e)) alike ∙ event-line script (record t { reached = m }) m call e (omega arith)

-- where a plan is found, only the calls count
call-behind : (script : Script) (t : Replay) (m call : ℕ) (text : List ℕ) (o : Option (Plan MapKind MergeKind))
    → call_after script (record t { reached = m }) m call text o ≡ call_after script t m call text o
call-behind script t m call text None = refl
call-behind script t m call text (Some p) = refl

-- a call that begins
pub call-step : (script : Script) (s t next : Replay) (m call : ℕ) (text : List ℕ) (o : Option (Plan MapKind MergeKind)) → s.reached ≡ m → settled s ≡ settled (record t { reached = m })
    → next ≡ call_after script s s.reached call text o
    → settled next ≡ settled (call_after script t m call text o)
call-step script s t next m call text o reached alike after =
    let mine : settled next ≡ settled (call_after script s m call text o) = ap settled (after ∙ ap (λ n. call_after script s n call text o) reached) in
    let le : s.reached ≤ m = omega (arith, reached) in
    mine ∙ sym (call-line script s m call text o le) ∙ ap (λ r. settled (call_after script r m call text o)) alike ∙ call-line script (record t { reached = m }) m call text o (omega arith)
    ∙ ap settled (call-behind script t m call text o)

-- The same calls have begun.
full-behind : (script : Script) (s t : Replay) (m : ℕ) → settled s ≡ settled (record t { reached = m }) → is_full script s ≡ is_full script t
full-behind script s t m alike =
    let count : count_by is_begun s.calls ≡ count_by is_begun t.calls = sym (count-settled s.reached s.calls) ∙ ap (λ (r : Replay). count_by is_begun r.calls) alike ∙ count-settled m t.calls in
    ap (nat_le script.slots) count

-- what its line tells
pub call-says : (script : Script) (s t : Replay) (m call : ℕ) (o : Option (Plan MapKind MergeKind)) → settled s ≡ settled (record t { reached = m })
    → call_tells (is_full script s) call o ≡ call_tells (is_full script t) call o
call-says script s t m call o alike = ap (λ v. call_tells v call o) (full-behind script s t m alike)
