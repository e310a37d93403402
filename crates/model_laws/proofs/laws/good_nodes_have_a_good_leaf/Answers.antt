use Rattle.model_laws.proofs.GoodNodes.{good-nodes}
use Rattle.model_laws.proofs.laws.good_nodes_have_a_good_leaf.Goals as goal

pub returns : goal.returns
returns g c = λ kinds. good-nodes kinds
