use Rattle.model_laws.proofs.Runs.{leaves-few}
use Rattle.model_laws.proofs.laws.leaves_issue_few.Goals as goal

pub returns : goal.returns
returns g c = λ kinds. leaves-few kinds
