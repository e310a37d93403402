use Rattle.model_laws.proofs.Heard.{told-few}
use Rattle.model_laws.proofs.laws.told_attempts_are_few.Goals as goal

pub returns : goal.returns
returns c = told-few
