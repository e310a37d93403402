use Rattle.model_laws.proofs.Runs.{sent-once}
use Rattle.model_laws.proofs.laws.nothing_is_sent_twice.Goals as goal

pub returns : goal.returns
returns g c = λ kinds. sent-once kinds
