-- States as lists, by which proofs tell them apart.
use Rattle.std.specs.Prelude.{◌≡◌, ℕ, List, [], ◌∷◌, None, refl}
use Rattle.std.proofs.Common.{ap, ◌∙◌}
use Rattle.std.specs.Coded.{Coded, code_by, coded_list}
use Rattle.rpc_model.specs.declared.chan.LeafChan.{LeafChan}
use Rattle.rpc_model.specs.Leaf.{Leaf}
use Rattle.rpc_model.specs.Plan.{Plan, sel_plan, last_plan}
use Rattle.rpc_model.specs.State.{Par, Sel, State, waits, leaf_state, par_state, sel_state, States, last_state, state_then}

-- a state as a list of tokens
pub data StateToken (M G : Type 0) : Type 0 where
  waits_token : Plan M G → StateToken M G
  leaf_token : LeafChan → List ℕ → Leaf → StateToken M G
  par_token : Par G → StateToken M G
  sel_token : Sel → StateToken M G
  end_token : StateToken M G

module _ {M G : Type 0} where
  abbrev mutual
    pub state_tokens : State M G → List (StateToken M G) → List (StateToken M G)
    state_tokens (waits plan) after = waits_token plan ∷ after
    state_tokens (leaf_state chan request leaf) after = leaf_token chan request leaf ∷ after
    state_tokens (par_state par states) after = par_token par ∷ states_tokens states (end_token ∷ after)
    state_tokens (sel_state sel states) after = sel_token sel ∷ states_tokens states (end_token ∷ after)

    pub states_tokens : States M G → List (StateToken M G) → List (StateToken M G)
    states_tokens last_state after = after
    states_tokens (state_then state states) after = state_tokens state (states_tokens states after)

  -- the lists that are begun, the innermost one first
  abbrev pub put_state : State M G → List (States M G) → List (States M G)
  put_state state [] = []
  put_state state (level ∷ levels) = state_then state level ∷ levels

  abbrev pub close_state : (States M G → State M G) → List (States M G) → List (States M G)
  close_state node [] = []
  close_state node (level ∷ levels) = put_state (node level) levels

  abbrev pub read_state : List (StateToken M G) → List (States M G)
  read_state [] = last_state ∷ []
  read_state (waits_token plan ∷ more) = put_state (waits plan) (read_state more)
  read_state (leaf_token chan request leaf ∷ more) = put_state (leaf_state chan request leaf) (read_state more)
  read_state (par_token par ∷ more) = close_state (par_state par) (read_state more)
  read_state (sel_token sel ∷ more) = close_state (sel_state sel) (read_state more)
  read_state (end_token ∷ more) = last_state ∷ read_state more

  abbrev pub put_states : States M G → List (States M G) → List (States M G)
  put_states last_state levels = levels
  put_states (state_then state states) levels = put_state state (put_states states levels)

  abbrev pub first_state : List (States M G) → State M G
  first_state [] = waits (sel_plan None last_plan)
  first_state (last_state ∷ levels) = waits (sel_plan None last_plan)
  first_state (state_then state states ∷ levels) = state

  abbrev pub put_states-level : (states : States M G) (levels : List (States M G)) → put_states states (last_state ∷ levels) ≡ states ∷ levels
  put_states-level last_state levels = refl
  put_states-level (state_then state states) levels = ap (put_state state) (put_states-level states levels)

  abbrev mutual
    pub read-state : (state : State M G) (after : List (StateToken M G)) → read_state (state_tokens state after) ≡ put_state state (read_state after)
    read-state (waits plan) after = refl
    read-state (leaf_state chan request leaf) after = refl
    read-state (par_state par states) after = ap (close_state (par_state par)) (read-states states (end_token ∷ after) ∙ put_states-level states (read_state after))
    read-state (sel_state sel states) after = ap (close_state (sel_state sel)) (read-states states (end_token ∷ after) ∙ put_states-level states (read_state after))

    pub read-states : (states : States M G) (after : List (StateToken M G)) → read_state (states_tokens states after) ≡ put_states states (read_state after)
    read-states last_state after = refl
    read-states (state_then state states) after = read-state state (states_tokens states after) ∙ ap (put_state state) (read-states states after)

  abbrev pub state_code : Coded (StateToken M G) → Coded (State M G)
  state_code token = code_by (List (StateToken M G)) (coded_list token) (λ state. state_tokens state []) (λ tokens. first_state (read_state tokens)) (λ state. ap first_state (read-state state []))
