use Rattle.id_shared.proofs.Holding.{destroyed_owners, destroyed_others}
use Rattle.id_shared.proofs.ids.Ids.destroy.Goals as goal

pub returns-clause-owners : goal.returns-clause-owners
returns-clause-owners g c = destroyed_owners g.T.Tenant.log g.T.Tenant.receipt c.args.hold c.args.value c.args.pass.now c.destroy_once.new.pass c.destroy_once.ensures.answer

pub returns-clause-others : goal.returns-clause-others
returns-clause-others g c = destroyed_others g.T.Tenant.log g.T.Tenant.receipt c.args.hold c.args.value c.args.pass.now c.destroy_once.new.pass c.destroy_once.ensures.answer
