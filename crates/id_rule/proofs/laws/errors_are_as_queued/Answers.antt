use Rattle.id_rule.proofs.Waiting.{errors_are_as_queued}
use Rattle.id_rule.proofs.laws.errors_are_as_queued.Goals as goal

pub returns : goal.returns
returns g c = record { as_queued = errors_are_as_queued g.T.Tenant.log g.T.Tenant.first_id g.T.Tenant.receipt }
