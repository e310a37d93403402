use Rattle.id_pool.proofs.Gone.{gone_stays}
use Rattle.id_pool.proofs.law.gone_stays_gone.Goals as goal

pub returns : goal.returns
returns g c = gone_stays
