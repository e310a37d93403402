-- A start and the steps behind it keep a call within its plan.
use Rattle.std.proofs.Common.{◌≡◌, ℕ, ◌+◌, ◌≤◌, List, arith, refl, ◌∙◌}
use Rattle.rpc_model.specs.declared.event.Event.{Event}
use Rattle.rpc_model.specs.declared.event.Event.TheVariants as event
use Rattle.rpc_model.specs.Kinds.{Kinds}
use Rattle.rpc_model.specs.Plan.{Plan}
use Rattle.rpc_model.specs.Versions.{nodes, possible_attempts, width}
use Rattle.rpc_model.proofs.Versions.{width-is}
use Rattle.rpc_model.specs.State.{State, waits, leaf_state, par_state, sel_state, size}
use Rattle.rpc_model.specs.Machine.{step_at, start, step, cancelled}
use Rattle.call_tree.specs.Weights.{possible}
use Rattle.call_tree.specs.Bounds.{IsWithin}
use Rattle.call_tree.proofs.Weights.{size-start, size-step, possible-start, possible-step}

module _ {M G : Type 0} where
  pub few_nodes : (plan : Plan M G) → width plan ≤ 1024 → nodes plan + possible_attempts plan ≤ 1024
  few_nodes plan few = let w = width-is plan in omega (arith, w, few)

  size-cancelled : (state : State M G) → size (cancelled state) ≡ size state
  size-cancelled (waits plan) = refl
  size-cancelled (leaf_state chan request leaf) = refl
  size-cancelled (par_state par states) = refl
  size-cancelled (sel_state sel states) = refl

  possible-cancelled : (state : State M G) → possible (cancelled state) ≡ possible state
  possible-cancelled (waits plan) = refl
  possible-cancelled (leaf_state chan request leaf) = refl
  possible-cancelled (par_state par states) = refl
  possible-cancelled (sel_state sel states) = refl

  pub begun_within : (kinds : Kinds M G) (plan : Plan M G) (call : ℕ) (request : List ℕ) (moment : ℕ) → width plan ≤ 1024 → IsWithin plan (start kinds plan call request moment).state
  begun_within kinds plan call request moment few = record {
    narrow = few;
    nodes_are = size-start kinds 0 plan call request moment;
    attempts_are = possible-start kinds 0 plan call request moment;
  }

  at-within : (kinds : Kinds M G) (plan : Plan M G) (state : State M G) (call : ℕ) (e : Event) (moment : ℕ) → IsWithin plan state → IsWithin plan (step_at kinds 0 state call e moment).state
  at-within kinds plan state call e moment h = record {
    narrow = h.narrow;
    nodes_are = size-step kinds 0 state call e moment ∙ h.nodes_are;
    attempts_are = possible-step kinds 0 state call e moment ∙ h.attempts_are;
  }

  pub step_within : (kinds : Kinds M G) (plan : Plan M G) (state : State M G) (call : ℕ) (e : Event) (moment : ℕ) → IsWithin plan state → IsWithin plan (step kinds call state e moment).state
  step_within kinds plan state call (event.Reply node attempt code text) moment h = at-within kinds plan state call (event.Reply node attempt code text) moment h
  step_within kinds plan state call (event.Lost node attempt code) moment h = at-within kinds plan state call (event.Lost node attempt code) moment h
  step_within kinds plan state call (event.Backup node) moment h = at-within kinds plan state call (event.Backup node) moment h
  step_within kinds plan state call (event.Deadline node) moment h = at-within kinds plan state call (event.Deadline node) moment h
  step_within kinds plan state call event.Cancel moment h = record { narrow = h.narrow; nodes_are = size-cancelled state ∙ h.nodes_are; attempts_are = possible-cancelled state ∙ h.attempts_are }
