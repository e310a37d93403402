use Rattle.id_shared.proofs.Holding.{unlocked_holding, unlocked_owners, unlocked_others}
use Rattle.id_shared.proofs.ids.Ids.unlock.Goals as goal

pub returns-clause-still : goal.returns-clause-still
returns-clause-still g c = unlocked_holding g.T.Tenant.log g.T.Tenant.receipt c.args.hold c.args.value c.args.pass.now c.unlock_once.new.pass c.unlock_once.result c.unlock_once.ensures.answer

pub returns-clause-owners : goal.returns-clause-owners
returns-clause-owners g c = unlocked_owners g.T.Tenant.log g.T.Tenant.receipt c.args.hold c.args.value c.args.pass.now c.unlock_once.new.pass c.unlock_once.result c.unlock_once.ensures.answer

pub returns-clause-others : goal.returns-clause-others
returns-clause-others g c = unlocked_others g.T.Tenant.log g.T.Tenant.receipt c.args.hold c.args.value c.args.pass.now c.unlock_once.new.pass c.unlock_once.result c.unlock_once.ensures.answer
