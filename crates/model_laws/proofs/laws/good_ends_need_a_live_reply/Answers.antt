use Rattle.model_laws.proofs.Earned.{good-ends}
use Rattle.model_laws.proofs.laws.good_ends_need_a_live_reply.Goals as goal

pub returns : goal.returns
returns g c = λ kinds. good-ends kinds
