-- What bounds the numbers of a call: its state has the nodes and the attempts of its plan, which are few.
use Rattle.std.specs.Prelude.{◌≡◌, ◌≤◌}
use Rattle.rpc_model.specs.Plan.{Plan}
use Rattle.rpc_model.specs.State.{State, size}
use Rattle.rpc_model.specs.Versions.{nodes, possible_attempts, width}
use Rattle.call_tree.specs.Weights.{possible}

module _ {M G : Type 0} where
  pub record IsWithin (plan : Plan M G) (state : State M G) : Type 0 where
    pub narrow : width plan ≤ 1024
    pub nodes_are : size state ≡ nodes plan
    pub attempts_are : possible state ≡ possible_attempts plan
