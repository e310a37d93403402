use Rattle.id_rule.proofs.Single.{one_holder}
use Rattle.id_rule.proofs.laws.one_holder.Goals as goal

pub returns : goal.returns
returns g c = record { one_holder = one_holder g.T.Tenant.log g.T.Tenant.first_id g.T.Tenant.receipt }
