use Rattle.mark_line.proofs.Balances.{registers}
use Rattle.mark_line.proofs.line.MarkLine.register.Goals as goal

pub push_as-requires-clause-rule : goal.push_as-requires-clause-rule
push_as-requires-clause-rule g c = λ n. registers n c.args.pass.now.seat.id c.args.pass.now.seat.me.view.client c.args.mark c.requires.some
