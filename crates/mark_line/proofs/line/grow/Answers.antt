use Rattle.std.proofs.Common.{◌≡◌, ◌<◌, arith}
use Rattle.mark_line.proofs.Balances.{grows}
use Rattle.mark_line.proofs.line.grow.Goals as goal

pub another-idle-requires-clause-rule : goal.another-idle-requires-clause-rule
another-idle-requires-clause-rule c = grows c.loop-count.seat.id c.loop-count.seat.me.view.client c.loop-count._count (omega arith) c.loop-count.invariant.1
