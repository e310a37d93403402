-- The state of a call: a tree with a node for each node of its plan. This project's own choice.
use Rattle.std.specs.Prelude.{ℕ, ◌+◌, List, [], ◌∷◌, ◌++◌, Option, None}
use Rattle.rpc_model.specs.declared.chan.LeafChan.{LeafChan}
use Rattle.rpc_model.specs.declared.event.End.{End}
use Rattle.rpc_model.specs.Leaf.{Leaf}
use Rattle.rpc_model.specs.Effects.{Send, Mark}
use Rattle.rpc_model.specs.Plan.{Plan, Plans, last_plan, plan_then}
use Rattle.rpc_model.specs.Versions.{nodes}
use Rattle.rpc_model.specs.Parallel.{Limits}

-- what a parallel node keeps: where it ends, what merges the answers of its subs, and its end
pub record Par (G : Type 0) : Type 0 where
  pub limits : Limits
  pub merges : List G
  pub end : Option End

-- what a selective node keeps: the request of each try, and its end
pub record Sel : Type 0 where
  pub request : List ℕ
  pub end : Option End

-- A node that wasn't started keeps its plan.
mutual
  pub data State (M G : Type 0) : Type 0 where
    waits : Plan M G → State M G
    leaf_state : LeafChan → List ℕ → Leaf → State M G
    par_state : Par G → States M G → State M G
    sel_state : Sel → States M G → State M G

  pub data States (M G : Type 0) : Type 0 where
    last_state : States M G
    state_then : State M G → States M G → States M G

-- a state, and the sends and the marks that came about on the way to it, in order
pub record Run (M G : Type 0) : Type 0 where
  pub state : State M G
  pub sends : List Send
  pub marks : List Mark

-- what starting or stepping the children of a node came to, and the end that came up from them
pub record Below (M G : Type 0) : Type 0 where
  pub states : States M G
  pub sends : List Send
  pub marks : List Mark
  pub end : Option End

module _ {M G : Type 0} where
  abbrev pub end_of : State M G → Option End
  end_of (waits plan) = None
  end_of (leaf_state chan request leaf) = leaf.end
  end_of (par_state par states) = par.end
  end_of (sel_state sel states) = sel.end

  -- the ends of the nodes by index
  abbrev pub ends_of : States M G → List (Option End)
  ends_of last_state = []
  ends_of (state_then state states) = end_of state ∷ ends_of states

  -- the attempts issued so far, by all leaves together
  abbrev mutual
    pub attempts : State M G → ℕ
    attempts (waits plan) = 0
    attempts (leaf_state chan request leaf) = leaf.issued
    attempts (par_state par states) = attempts_of states
    attempts (sel_state sel states) = attempts_of states

    pub attempts_of : States M G → ℕ
    attempts_of last_state = 0
    attempts_of (state_then state states) = attempts state + attempts_of states

  -- how many nodes
  abbrev mutual
    pub size : State M G → ℕ
    size (waits plan) = nodes plan
    size (leaf_state chan request leaf) = 1
    size (par_state par states) = 1 + size_of states
    size (sel_state sel states) = 1 + size_of states

    pub size_of : States M G → ℕ
    size_of last_state = 0
    size_of (state_then state states) = size state + size_of states

  -- nodes that all wait
  abbrev pub waiting_states : Plans M G → States M G
  waiting_states last_plan = last_state
  waiting_states (plan_then plan plans) = state_then (waits plan) (waiting_states plans)

  -- ---- runs put together

  -- nothing is sent and no mark is set
  abbrev pub quiet : State M G → Run M G
  quiet state = record { state = state; sends = []; marks = [] }

  abbrev pub still : States M G → Below M G
  still states = record { states = states; sends = []; marks = []; end = None }

  -- a child that is as it was, before the others
  abbrev pub beside : State M G → Below M G → Below M G
  beside state below = record below { states = state_then state below.states }

  -- a child's run, before that of the others
  abbrev pub run_then : Run M G → Below M G → Below M G
  run_then run below = record { states = state_then run.state below.states; sends = run.sends ++ below.sends; marks = run.marks ++ below.marks; end = below.end }

  -- a child's run, where the others stay as they are
  abbrev pub run_beside : Run M G → States M G → Option End → Below M G
  run_beside run states end = record { states = state_then run.state states; sends = run.sends; marks = run.marks; end = end }

  -- a run, and then a step
  abbrev pub and_then : Run M G → Run M G → Run M G
  and_then before next = record { state = next.state; sends = before.sends ++ next.sends; marks = before.marks ++ next.marks }
