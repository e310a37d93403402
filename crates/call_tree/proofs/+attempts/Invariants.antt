use Rattle.std.proofs.Common.{◌≡◌, ◌+◌, ◌*◌, ◌≤◌, drop}
use Rattle.rpc_model.specs.State.{size, size_of, attempts_of}
use Rattle.call_tree.specs.Shown.{states_of}
use Rattle.call_tree.specs.Weights.{possible_of}
use Rattle.call_tree.proofs.+attempts.Given as goal

abbrev pub invariant-stepping::attempts_of-loop-node : goal.invariant-stepping::attempts_of-loop-node
invariant-stepping::attempts_of-loop-node g l = record {
  so_far : l.sum + attempts_of (states_of (drop l.node-index l.nodes)) ≡ attempts_of (states_of l.nodes);
  few : l.sum + possible_of (states_of (drop l.node-index l.nodes)) ≤ possible_of (states_of l.nodes);
}

abbrev pub decreases-nodes::Tree::attempts : goal.decreases-nodes::Tree::attempts
decreases-nodes::Tree::attempts g l = 2 * size l.self.now

abbrev pub decreases-stepping::attempts_of : goal.decreases-stepping::attempts_of
decreases-stepping::attempts_of g l = 2 * size_of (states_of l.nodes.now) + 1
