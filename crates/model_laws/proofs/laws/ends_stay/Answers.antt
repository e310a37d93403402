use Rattle.model_laws.proofs.Runs.{ends-stay}
use Rattle.model_laws.proofs.laws.ends_stay.Goals as goal

pub returns : goal.returns
returns g c = λ kinds. ends-stay kinds
