use Rattle.model_laws.proofs.Even.{parallel-even}
use Rattle.model_laws.proofs.laws.parallel_nodes_are_even.Goals as goal

pub returns : goal.returns
returns g c = parallel-even _ _
