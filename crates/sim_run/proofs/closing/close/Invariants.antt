-- The ids before this offset wait no more.
use Rattle.std.proofs.Common.{◌≡◌}
use Rattle.sim_run.specs.Closing.{closed}
use Rattle.sim_run.proofs.closing.close.Given as goal

abbrev pub invariant-loop-offset : goal.invariant-loop-offset
invariant-loop-offset l = l.wires.items ≡ closed l.ticket l.call l.offset l.fn.wires.items
