use Rattle.id_shared.proofs.Keeping.{reserved_claims, reserved_has}
use Rattle.id_shared.proofs.ids.Ids.reserve.Goals as goal

pub returns-clause-spot : goal.returns-clause-spot
returns-clause-spot g c = reserved_has c.args.self.now.sizes c.args.range c.args.pass.now c.reserve_first.new.pass c.reserve_first.result c.reserve_first.ensures.answer

pub returns-clause-claims : goal.returns-clause-claims
returns-clause-claims g c = reserved_claims c.args.self.now.sizes c.args.range c.args.pass.now c.reserve_first.new.pass c.reserve_first.result c.reserve_first.ensures.answer
