-- Where the nodes below a node begin: this project's own choice.
use Rattle.std.specs.Prelude.{◌≡◌, ℕ, ◌+◌, ◌<◌, ◌≤◌, List, [], ◌∷◌, length, get_or}
use Rattle.rpc_model.specs.State.{States, last_state, state_then, size}

module _ {M G : Type 0} where
  -- where each of the states begins, the first one at this place
  abbrev pub firsts : ℕ → States M G → List ℕ
  firsts at last_state = []
  firsts at (state_then state states) = at ∷ firsts (at + size state) states

  -- the node of this index, of those behind a node, has this number, and the number sought is its own or below it
  pub record IsAt (node to : ℕ) (states : States M G) (at first : ℕ) : Type 0 where
    pub place : at < length (firsts (node + 1) states)
    pub first_is : first ≡ get_or (firsts (node + 1) states) at 0
    pub low : first ≤ to
    pub high : (k : ℕ) → at < k → k < length (firsts (node + 1) states) → to < get_or (firsts (node + 1) states) k 0
