use Rattle.model_laws.proofs.Parallels.{parallel-nodes}
use Rattle.model_laws.proofs.laws.parallel_nodes_stand_by_completions.Goals as goal

pub returns : goal.returns
returns g c = λ kinds. parallel-nodes kinds
