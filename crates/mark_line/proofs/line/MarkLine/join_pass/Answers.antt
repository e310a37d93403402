use Rattle.mark_line.proofs.Balances.{joins}
use Rattle.mark_line.proofs.line.MarkLine.join_pass.Goals as goal

pub absorb-requires-clause-rule : goal.absorb-requires-clause-rule
absorb-requires-clause-rule c = joins c.args.pass.now.seat.id c.args.pass.now.seat.me.view.client c.args.other.seat.id c.args.other.seat.me.view.client c.requires.pass.some c.requires.other.some
