use Rattle.model_laws.proofs.Once.{told-once}
use Rattle.model_laws.proofs.laws.told_once.Goals as goal

pub returns : goal.returns
returns c = told-once
