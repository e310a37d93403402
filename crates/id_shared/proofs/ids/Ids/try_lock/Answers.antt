use Rattle.id_shared.proofs.Keeping.{tried_claims, tried_errors, tried_holding}
use Rattle.id_shared.proofs.ids.Ids.try_lock.Goals as goal

pub returns-clause-holding : goal.returns-clause-holding
returns-clause-holding g c = tried_holding g.T.Tenant.log g.T.Tenant.first_id g.T.Tenant.receipt c.args.self.now.sizes.slots c.args.id c.args.pass.now c.try_once.new.pass
    c.try_once.result c.try_once.ensures.answer

pub returns-clause-claims : goal.returns-clause-claims
returns-clause-claims g c = tried_claims g.T.Tenant.log g.T.Tenant.first_id g.T.Tenant.receipt c.args.self.now.sizes.slots c.args.id c.args.pass.now c.try_once.new.pass
    c.try_once.result c.try_once.ensures.answer

pub returns-clause-errors : goal.returns-clause-errors
returns-clause-errors g c = tried_errors g.T.Tenant.log g.T.Tenant.first_id g.T.Tenant.receipt c.args.self.now.sizes.slots c.args.id c.args.pass.now c.try_once.new.pass
    c.try_once.result c.try_once.ensures.answer
