use Rattle.id_shared.specs.Standing.{IsPassOf}
use Rattle.id_shared.proofs.Retries.{IsRetrying}
use Rattle.id_shared.proofs.ids.Ids.post.Given as goal

abbrev pub invariant-loop : goal.invariant-loop
invariant-loop g l = IsPassOf l.self l.pass × IsRetrying g.T.Tenant.log g.T.Tenant.first_id g.T.Tenant.receipt l.self.sizes.slots l.id l.code l.initial.pass l.pass
