use Rattle.model_laws.proofs.Runs.{nodes-stay}
use Rattle.model_laws.proofs.laws.nodes_stay.Goals as goal

pub returns : goal.returns
returns g c = λ kinds. nodes-stay kinds
