-- What has an end stays as it is.
use Rattle.std.proofs.Common.{◌≡◌, ℕ, true, false, cond, ◌==◌, Some, refl, ap}
use Rattle.rpc_model.specs.declared.event.End.{End}
use Rattle.rpc_model.specs.declared.event.Event.{Event}
use Rattle.rpc_model.specs.declared.event.Event.TheVariants as event
use Rattle.rpc_model.specs.Leaf.{Leaf, leaf_step}
use Rattle.rpc_model.specs.Kinds.{Kinds}
use Rattle.rpc_model.specs.State.{State, waits, leaf_state, par_state, sel_state, end_of, quiet}
use Rattle.rpc_model.specs.Machine.{node_of, leaf_run, step_at, step}

-- No event changes a leaf that has an end.
pub leaf-ended : (retry : ℕ) (leaf : Leaf) (e : Event) (end : End) → leaf.end ≡ Some end → leaf_step retry leaf e ≡ leaf
leaf-ended retry leaf (event.Reply node attempt code text) end h = rw h refl
leaf-ended retry leaf (event.Lost node attempt code) end h = rw h refl
leaf-ended retry leaf (event.Backup node) end h = rw h refl
leaf-ended retry leaf (event.Deadline node) end h = rw h refl
leaf-ended retry leaf event.Cancel end h = refl

module _ {M G : Type 0} (kinds : Kinds M G) where
  -- No event changes a node that has an end, nor anything below it.
  pub node-ended : (number : ℕ) (state : State M G) (call : ℕ) (e : Event) (moment : ℕ) (end : End) → end_of state ≡ Some end → (step_at kinds number state call e moment).state ≡ state
  node-ended number (waits plan) call e moment end h = refl
  node-ended number (leaf_state chan request leaf) call e moment end h =
      elim (node_of e == number) as (λ v. (cond v (leaf_run {M = M} {G = G} chan call number request leaf (leaf_step chan.retry leaf e)) (quiet (leaf_state chan request leaf))).state
      ≡ leaf_state chan request leaf)
      [ true ↦ ap (leaf_state chan request) (leaf-ended chan.retry leaf e end h) | false ↦ refl ]
  node-ended number (par_state par states) call e moment end h = rw h refl
  node-ended number (sel_state sel states) call e moment end h = rw h refl

  -- A call that has an end stays as it is.
  pub step-ended : (call : ℕ) (state : State M G) (e : Event) (moment : ℕ) (end : End) → end_of state ≡ Some end → (step kinds call state e moment).state ≡ state
  step-ended call (waits plan) event.Cancel moment end h = refl
  step-ended call (leaf_state chan request leaf) event.Cancel moment end h = rw h refl
  step-ended call (par_state par states) event.Cancel moment end h = rw h refl
  step-ended call (sel_state sel states) event.Cancel moment end h = rw h refl
  step-ended call state (event.Reply node attempt code text) moment end h = node-ended 0 state call (event.Reply node attempt code text) moment end h
  step-ended call state (event.Lost node attempt code) moment end h = node-ended 0 state call (event.Lost node attempt code) moment end h
  step-ended call state (event.Backup node) moment end h = node-ended 0 state call (event.Backup node) moment end h
  step-ended call state (event.Deadline node) moment end h = node-ended 0 state call (event.Deadline node) moment end h
