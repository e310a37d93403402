use Rattle.rpc_model.specs.State.{size}
use Rattle.call_tree.proofs.nodes.Tree.+decide.Given as goal

abbrev pub decreases-decide : goal.decreases-decide
decreases-decide g l = size l.self.now
