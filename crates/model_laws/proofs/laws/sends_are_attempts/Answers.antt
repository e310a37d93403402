use Rattle.model_laws.proofs.Runs.{sends-attempts}
use Rattle.model_laws.proofs.laws.sends_are_attempts.Goals as goal

pub returns : goal.returns
returns g c = λ kinds. sends-attempts kinds
