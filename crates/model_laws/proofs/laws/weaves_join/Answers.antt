use Rattle.model_laws.proofs.Runs.{weaves-join}
use Rattle.model_laws.proofs.laws.weaves_join.Goals as goal

pub returns : goal.returns
returns c = weaves-join
