-- What a plan and a state weigh, where each leaf and each inner node has a weight: a step keeps it. This project's own choice.
use Rattle.std.specs.Prelude.{ℕ, ◌+◌}
use Rattle.rpc_model.specs.declared.chan.LeafChan.{LeafChan}
use Rattle.rpc_model.specs.Plan.{Plan, leaf_plan, par_plan, sel_plan, Plans, last_plan, plan_then}
use Rattle.rpc_model.specs.State.{State, waits, leaf_state, par_state, sel_state, States, last_state, state_then}

module _ {M G : Type 0} (leaf_weight : LeafChan → ℕ) (inner : ℕ) where
  abbrev mutual
    pub plan_weight : Plan M G → ℕ
    plan_weight (leaf_plan leaf) = leaf_weight leaf
    plan_weight (par_plan rule plans) = inner + plans_weight plans
    plan_weight (sel_plan timeout plans) = inner + plans_weight plans

    pub plans_weight : Plans M G → ℕ
    plans_weight last_plan = 0
    plans_weight (plan_then plan plans) = plan_weight plan + plans_weight plans

  abbrev mutual
    pub state_weight : State M G → ℕ
    state_weight (waits plan) = plan_weight plan
    state_weight (leaf_state chan request leaf) = leaf_weight chan
    state_weight (par_state par states) = inner + states_weight states
    state_weight (sel_state sel states) = inner + states_weight states

    pub states_weight : States M G → ℕ
    states_weight last_state = 0
    states_weight (state_then state states) = state_weight state + states_weight states

-- how many attempts a leaf may issue
abbrev pub leaf_attempts : LeafChan → ℕ
leaf_attempts chan = chan.retry + 1

module _ {M G : Type 0} where
  -- how many attempts the leaves may issue together, those that were issued among them
  abbrev pub possible : State M G → ℕ
  possible state = state_weight leaf_attempts 0 state

  abbrev pub possible_of : States M G → ℕ
  possible_of states = states_weight leaf_attempts 0 states
