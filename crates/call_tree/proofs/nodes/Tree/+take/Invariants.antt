use Rattle.rpc_model.specs.State.{size}
use Rattle.call_tree.proofs.nodes.Tree.+take.Given as goal

abbrev pub decreases-take : goal.decreases-take
decreases-take g l = size l.self.now
