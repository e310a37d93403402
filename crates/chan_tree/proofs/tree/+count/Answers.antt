use Rattle.std.proofs.Common.{rules, arith, ap}
use Rattle.rpc_model.specs.Versions.{nodes}
use Rattle.chan_tree.proofs.Copies.{kid-small}
use Rattle.chan_tree.proofs.tree.+count.Goals as goal

pub nodes_of-nodes-count-requires : goal.nodes_of-nodes-count-requires
nodes_of-nodes-count-requires g t c κs within =
    let is = ap nodes c.tree-item.is in
    let small = kid-small c.args.trees.now c.loop-tree.tree-index c.tree-item.result c.loop-tree-test.true in
    let few = c.requires.few in
    (omega (arith, is, small, c.decreases), (search rules, (search rules, omega (arith, is, small, few))))
