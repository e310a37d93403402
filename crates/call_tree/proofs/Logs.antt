-- A call is the plain machine of its log.
use Rattle.std.proofs.Common.{◌≡◌, ℕ, List, [], ◌∷◌, ◌++◌, map, fold, refl, ap, sym, ◌∙◌}
use Rattle.std.proofs.lemmas.List.{append-nil, append_assoc}
use Rattle.rpc_model.specs.declared.event.Event.{Event}
use Rattle.rpc_model.specs.declared.entry.Entry.{Entry}
use Rattle.rpc_model.specs.Kinds.{Kinds}
use Rattle.rpc_model.specs.State.{Run, and_then}
use Rattle.rpc_model.specs.Machine.{start, step}
use Rattle.call_tree.specs.Running.{Running, begun_by}
use Rattle.call_tree.specs.Logs.{timed, applied, CallsAreTheMachinesOfTheirLogs}

module _ {M G : Type 0} (kinds : Kinds M G) where
  log-after : (running : Running M G) (entries : List Entry) → (fold (applied kinds) running entries).log ≡ running.log ++ entries
  log-after running [] = sym (append-nil running.log)
  log-after running (entry ∷ entries) = log-after (applied kinds running entry) entries ∙ append_assoc running.log (entry ∷ []) entries

  state-after : (call : ℕ) (running : Running M G) (run : Run M G) (entries : List Entry) → running.call ≡ call → running.state ≡ run.state
      → (fold (applied kinds) running entries).state ≡ (fold (λ (r : Run M G) (t : Event × ℕ). and_then r (step kinds call r.state t.0 t.1)) run (map timed entries)).state
  state-after call running run [] number same = same
  state-after call running run (entry ∷ entries) number same =
      state-after call (applied kinds running entry) (and_then run (step kinds call run.state entry.event entry.moment)) entries number
      (ap (λ c. (step kinds c running.state entry.event entry.moment).state) number ∙ ap (λ s. (step kinds call s entry.event entry.moment).state) same)

  pub calls_are_machines : CallsAreTheMachinesOfTheirLogs kinds
  calls_are_machines plan call request begun entries =
      let first = begun_by plan call (start kinds plan call request begun) in
      (log-after first entries, state-after call first (start kinds plan call request begun) entries refl refl)
