use Rattle.id_shared.proofs.Errands.{posted_claims, posted_holding, posted_errors}
use Rattle.id_shared.proofs.ids.Ids.try_post.Goals as goal

pub returns-clause-claims : goal.returns-clause-claims
returns-clause-claims g c = posted_claims g.T.Tenant.log g.T.Tenant.first_id g.T.Tenant.receipt c.args.self.now.sizes.slots c.args.id c.args.code c.args.pass.now c.post_once.new.pass
    c.post_once.result c.post_once.ensures.answer

pub returns-clause-holding : goal.returns-clause-holding
returns-clause-holding g c = posted_holding g.T.Tenant.log g.T.Tenant.first_id g.T.Tenant.receipt c.args.self.now.sizes.slots c.args.id c.args.code c.args.pass.now c.post_once.new.pass
    c.post_once.result c.post_once.ensures.answer

pub returns-clause-errors : goal.returns-clause-errors
returns-clause-errors g c = posted_errors g.T.Tenant.log g.T.Tenant.first_id g.T.Tenant.receipt c.args.self.now.sizes.slots c.args.id c.args.code c.args.pass.now c.post_once.new.pass
    c.post_once.result c.post_once.ensures.answer
