-- What an event brings the nodes on its way: this project's own choice.
use Rattle.std.specs.Prelude.{ℕ, zero, suc, ◌+◌, ◌==◌, nat_lt, List, [], ◌∷◌, ◌++◌, Option, None, Some, if◌then◌else◌}
use Rattle.rpc_model.specs.declared.event.End.{End}
use Rattle.rpc_model.specs.declared.event.Event.{Event}
use Rattle.rpc_model.specs.Kinds.{Kinds}
use Rattle.rpc_model.specs.Plan.{Plan}
use Rattle.rpc_model.specs.Versions.{nodes}
use Rattle.rpc_model.specs.Selective.{next_try}
use Rattle.rpc_model.specs.State.{State, waits, leaf_state, par_state, sel_state, States, last_state, state_then, Below, end_of, size, still}
use Rattle.rpc_model.specs.Machine.{node_of, new_end, is_left, start_at, step_at}

-- the end that it brings a node, and the tries behind that node that start then
pub record Brought (M G : Type 0) : Type 0 where
  pub end : Option End
  pub started : List (State M G)

-- below a node with an end it brings nothing
abbrev pub while_open : {X : Type 0} → Option End → List X → List X
while_open None xs = xs
while_open (Some end) xs = []

module _ {M G : Type 0} (kinds : Kinds M G) where
  -- the tries behind one that has this end: they start where it doesn't end the node
  abbrev pub behind_end : Option End → List (State M G) → List (State M G)
  behind_end None started = started
  behind_end (Some up) started = []

  abbrev pub behind_try : States M G → Option End → List (State M G) → List (State M G)
  behind_try states None started = []
  behind_try states (Some end) started = behind_end (next_try (is_left states) end) started

  -- the tries that start, from the first that waits on
  abbrev pub started_tries : ℕ → States M G → ℕ → List ℕ → ℕ → List (State M G)
  started_tries node last_state call request moment = []
  started_tries node (state_then (waits plan) states) call request moment =
      let state = (start_at kinds node plan call request moment).state in
      state ∷ behind_try states (end_of state) (started_tries (node + nodes plan) states call request moment)
  started_tries node (state_then state states) call request moment = []

  abbrev mutual
    -- what it brings the nodes below this one, the lowest first
    pub brought_at : ℕ → State M G → ℕ → Event → ℕ → List (Brought M G)
    brought_at node (waits plan) call event moment = []
    brought_at node (leaf_state chan request leaf) call event moment = []
    brought_at node (par_state par states) call event moment =
        while_open par.end (if node_of event == node then [] else brought_subs (node + 1) states call event moment)
    brought_at node (sel_state sel states) call event moment =
        while_open sel.end (if node_of event == node then [] else brought_tries (node + 1) states call event moment sel.request)

    pub brought_subs : ℕ → States M G → ℕ → Event → ℕ → List (Brought M G)
    brought_subs node last_state call event moment = []
    brought_subs node (state_then state states) call event moment =
        let end = new_end (end_of state) (end_of (step_at kinds node state call event moment).state) in
        if nat_lt (node_of event) (node + size state) then brought_at node state call event moment ++ record { end = end; started = [] } ∷ []
        else brought_subs (node + size state) states call event moment

    pub brought_tries : ℕ → States M G → ℕ → Event → ℕ → List ℕ → List (Brought M G)
    brought_tries node last_state call event moment request = []
    brought_tries node (state_then state states) call event moment request =
        let end = new_end (end_of state) (end_of (step_at kinds node state call event moment).state) in
        if nat_lt (node_of event) (node + size state)
        then brought_at node state call event moment ++ record { end = end; started = behind_try states end (started_tries (node + size state) states call request moment) } ∷ []
        else brought_tries (node + size state) states call event moment request

module _ {M G : Type 0} where
  -- what follows the end of a try, where these tries are left and this is what their start comes to
  abbrev pub followed_end : Option End → States M G → Below M G → Below M G
  followed_end None rest next = next
  followed_end (Some up) rest next = record (still rest) { end = Some up }

  abbrev pub followed : Option End → States M G → Below M G → Below M G
  followed None rest next = still rest
  followed (Some end) rest next = followed_end (next_try (is_left rest) end) rest next

  -- these states stand over the first of those
  abbrev pub put_all : List (State M G) → List (State M G) → List (State M G)
  put_all [] states = states
  put_all (t ∷ ts) [] = []
  put_all (t ∷ ts) (s ∷ states) = t ∷ put_all ts states

  -- the same from this place on
  abbrev pub put_from : ℕ → List (State M G) → List (State M G) → List (State M G)
  put_from zero ts states = put_all ts states
  put_from (suc at) ts [] = []
  put_from (suc at) ts (s ∷ states) = s ∷ put_from at ts states

  -- the plan of a state that wasn't started
  abbrev pub plan_waiting : State M G → Option (Plan M G)
  plan_waiting (waits plan) = Some plan
  plan_waiting (leaf_state chan request leaf) = None
  plan_waiting (par_state par states) = None
  plan_waiting (sel_state sel states) = None
