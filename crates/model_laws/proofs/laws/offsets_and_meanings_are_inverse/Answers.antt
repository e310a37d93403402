use Rattle.model_laws.proofs.Runs.{inverse}
use Rattle.model_laws.proofs.laws.offsets_and_meanings_are_inverse.Goals as goal

pub returns : goal.returns
returns g c = inverse
