-- Where a step does nothing, nothing goes out.
use Rattle.std.proofs.Common.{◌≡◌, ℕ, ◌≤◌, arith, ◌++◌, ap, sym, ◌∙◌}
use Rattle.std.proofs.lemmas.List.{append-nil}
use Rattle.rpc_model.specs.declared.event.Event.{Event}
use Rattle.rpc_model.specs.declared.event.Event.TheVariants.{Cancel}
use Rattle.rpc_model.specs.Kinds.{Kinds}
use Rattle.rpc_model.specs.State.{State, Run, size, quiet}
use Rattle.rpc_model.specs.Machine.{node_of, step}
use Rattle.call_tree.specs.declared.outbox.Outbox.{Outbox}
use Rattle.call_tree.specs.Growing.{IsGrown}
use Rattle.call_tree.proofs.Outside.{step_outside, step_is}

module _ {M G : Type 0} where
  pub quiet-grown : (out : Outbox) (run : Run M G) (state : State M G) → run ≡ quiet state → IsGrown out out run.sends run.marks
  quiet-grown out run state is = record {
    sent = sym (ap (λ (r : Run M G). out.sends.items ++ r.sends) is ∙ append-nil out.sends.items);
    set = sym (ap (λ (r : Run M G). out.marks.items ++ r.marks) is ∙ append-nil out.marks.items);
  }

  pub step-past : (kinds : Kinds M G) (state : State M G) (call : ℕ) (e : Event) (moment : ℕ) → (e ≡ Cancel → ⊥) → size state ≤ node_of e → step kinds call state e moment ≡ quiet state
  step-past kinds state call e moment other past_it = step_is kinds state call e moment other ∙ step_outside kinds 0 state call e moment (omega (arith, past_it))
