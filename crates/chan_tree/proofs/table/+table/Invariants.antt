use Rattle.std.proofs.Common.{◌+◌, ◌*◌}
use Rattle.rpc_model.specs.Versions.{nodes, nodes_of}
use Rattle.chan_tree.specs.Shown.{plans_of}
use Rattle.chan_tree.proofs.table.+table.Given as goal

abbrev pub decreases-add_tree : goal.decreases-add_tree
decreases-add_tree g l = 2 * nodes l.tree.now

abbrev pub decreases-add_trees : goal.decreases-add_trees
decreases-add_trees g l = 2 * nodes_of (plans_of l.trees.now) + 1
