use Rattle.timer_core.proofs.Noted.{none_listed, first_noted}
use Rattle.timer_core.proofs.chains.Chains.first_list.Goals as goal

pub returns-in_default : goal.returns-in_default
returns-in_default c = none_listed c.self.inside.nodes.items c.self.inside.ends.items c.self.inside.used c.args.self.now c.self.view_is c.self.invariant.noted c.in_default.ensures

pub returns : goal.returns
returns c = first_noted c.self.inside.nodes.items c.self.inside.ends.items c.self.inside.used c.args.self.now c.self.view_is c.self.invariant.noted c.in-Some.list c.in-Some.ensures
