use Rattle.model_laws.proofs.Runs.{sends-of}
use Rattle.model_laws.proofs.laws.sends_are_of_the_state.Goals as goal

pub returns : goal.returns
returns g c = λ kinds. sends-of kinds
