use Rattle.std.proofs.Common.{◌≡◌, ◌+◌, ◌*◌, drop}
use Rattle.rpc_model.specs.Versions.{nodes, nodes_of}
use Rattle.chan_tree.specs.Shown.{plans_of}
use Rattle.chan_tree.proofs.tree.+count.Given as goal

abbrev pub invariant-nodes_of-loop-tree : goal.invariant-nodes_of-loop-tree
invariant-nodes_of-loop-tree g l = record { so_far : l.count + nodes_of (plans_of (drop l.tree-index l.trees)) ≡ nodes_of (plans_of l.trees) }

abbrev pub decreases-PlanTree::nodes : goal.decreases-PlanTree::nodes
decreases-PlanTree::nodes g l = 2 * nodes l.self.now

abbrev pub decreases-nodes_of : goal.decreases-nodes_of
decreases-nodes_of g l = 2 * nodes_of (plans_of l.trees.now) + 1
