use Rattle.id_rule.proofs.Single.{owned_slots_stay}
use Rattle.id_rule.proofs.laws.owned_slots_stay.Goals as goal

pub returns : goal.returns
returns g c = record { owned_slots_stay = owned_slots_stay g.T.Tenant.log g.T.Tenant.first_id g.T.Tenant.receipt }
