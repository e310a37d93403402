use Rattle.model_laws.proofs.Runs.{tries-few}
use Rattle.model_laws.proofs.laws.tries_are_few.Goals as goal

pub returns : goal.returns
returns g c = tries-few
