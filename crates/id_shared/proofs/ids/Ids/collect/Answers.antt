use Rattle.id_shared.proofs.Keeping.{collected_claims}
use Rattle.id_shared.proofs.ids.Ids.collect.Goals as goal

pub returns-clause-claims : goal.returns-clause-claims
returns-clause-claims g c = collected_claims g.T.Tenant.log g.T.Tenant.first_id c.args.owner c.args.pass.now c.collect_once.new.pass c.collect_once.result c.collect_once.ensures.answer
