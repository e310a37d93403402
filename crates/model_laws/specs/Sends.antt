-- The requests that a call has sent, as its state shows them: of each leaf that was started the first attempts, one for each that it issued. This project's own choice.
use Rattle.std.specs.Prelude.{ℕ, zero, suc, ◌+◌, Bool, ◌==◌, ◌&&◌, List, [], ◌∷◌, ◌++◌}
use Rattle.rpc_model.specs.declared.chan.LeafChan.{LeafChan}
use Rattle.rpc_model.specs.Effects.{Send, server_of}
use Rattle.rpc_model.specs.State.{State, waits, leaf_state, par_state, sel_state, States, last_state, state_then, size}

-- the first so many attempts of a leaf, each to its own server
abbrev pub leaf_sends : LeafChan → ℕ → ℕ → List ℕ → ℕ → List Send
leaf_sends chan call node request zero = []
leaf_sends chan call node request (suc count) =
    leaf_sends chan call node request count ++ record { node = node; attempt = count; server = server_of chan call count; payload = request } ∷ []

-- it is this attempt of this node
abbrev pub is_of : ℕ → ℕ → Send → Bool
is_of node attempt send = send.node == node && send.attempt == attempt

module _ {M G : Type 0} where
  abbrev mutual
    -- of the leaves at the node of this number and below it, for a call of this number
    pub sends_of : ℕ → ℕ → State M G → List Send
    sends_of call node (waits plan) = []
    sends_of call node (leaf_state chan request leaf) = leaf_sends chan call node request leaf.issued
    sends_of call node (par_state par states) = all_sends call (node + 1) states
    sends_of call node (sel_state sel states) = all_sends call (node + 1) states

    pub all_sends : ℕ → ℕ → States M G → List Send
    all_sends call node last_state = []
    all_sends call node (state_then state states) = sends_of call node state ++ all_sends call (node + size state) states
