use Rattle.mark_line.proofs.Balances.{takes, learns, none_taken}
use Rattle.mark_line.proofs.line.MarkLine.take.Goals as goal

pub pop_as-requires-clause-rule : goal.pop_as-requires-clause-rule
pop_as-requires-clause-rule g c = (takes c.args.pass.now.seat.id c.args.pass.now.seat.me.view.client c.requires.some, learns c.args.pass.now.seat.id c.args.pass.now.seat.me.view.client)

pub returns-clause-all : goal.returns-clause-all
returns-clause-all g c = none_taken c.pop_as.result c.args.pass.now.seat.me.view.client c.pop_as.new.pass.me.view.client c.args.self.now.passes _ c.requires.some c.requires.all c.pop_as.ensures.rule
