-- A node of a call, named by the way to it from the root: at each node which child comes next, counted from 0. This project's own choice.
use Rattle.std.specs.Prelude.{ℕ, zero, suc, ◌+◌, List, [], ◌∷◌, Option, None, Some}
use Rattle.rpc_model.specs.Plan.{Plan, leaf_plan, par_plan, sel_plan, Plans, last_plan}
use Rattle.rpc_model.specs.State.{State, waits, leaf_state, par_state, sel_state, States, last_state, state_then, size, waiting_states}

module _ {M G : Type 0} where
  abbrev pub plans_below : Plan M G → Plans M G
  plans_below (leaf_plan leaf) = last_plan
  plans_below (par_plan rule plans) = plans
  plans_below (sel_plan timeout plans) = plans

  -- the children of a node that waits wait
  abbrev pub children : State M G → States M G
  children (waits plan) = waiting_states (plans_below plan)
  children (leaf_state chan request leaf) = last_state
  children (par_state par states) = states
  children (sel_state sel states) = states

  abbrev pub child : ℕ → States M G → Option (State M G)
  child k last_state = None
  child zero (state_then state states) = Some state
  child (suc k) (state_then state states) = child k states

  abbrev pub in_child : (State M G → Option (State M G)) → Option (State M G) → Option (State M G)
  in_child at None = None
  in_child at (Some state) = at state

  -- the node at the end of this path
  abbrev pub node_at : List ℕ → State M G → Option (State M G)
  node_at [] state = Some state
  node_at (k ∷ path) state = in_child (node_at path) (child k (children state))

  -- the number of the child of this index, where the first child's is given
  abbrev pub child_number : ℕ → ℕ → States M G → ℕ
  child_number number k last_state = number
  child_number number zero (state_then state states) = number
  child_number number (suc k) (state_then state states) = child_number (number + size state) k states

  abbrev pub in_number : (State M G → ℕ) → Option (State M G) → ℕ
  in_number number_of None = 0
  in_number number_of (Some state) = number_of state

  -- the number of the node at the end of this path from the node of the given number: a node comes before all below it, and these before its next sibling
  abbrev pub number_at : ℕ → List ℕ → State M G → ℕ
  number_at number [] state = number
  number_at number (k ∷ path) state = in_number (number_at (child_number (number + 1) k (children state)) path) (child k (children state))
