use Rattle.model_laws.proofs.Runs.{nodes-of}
use Rattle.model_laws.proofs.laws.nodes_are_of_the_plan.Goals as goal

pub returns : goal.returns
returns g c = λ kinds. nodes-of kinds
