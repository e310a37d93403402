-- The marks that were taken so far left the calls as the plain machine's, which take theirs when the moment is reached.
use Rattle.std.proofs.Common.{length, ◌+◌, ◌*◌}
use Rattle.sim_run.proofs.Fewer.{total_left}
use Rattle.sim_run.proofs.Reaching.{IsReaching}
use Rattle.sim_run.proofs.state.Replay.reach.Given as goal

abbrev pub invariant-taken : goal.invariant-taken
invariant-taken l = IsReaching l.script l.fn.self l.self l.moment

abbrev pub decreases-taken : goal.decreases-taken
decreases-taken l = length l.self.marks + 2 * total_left l.self.pool
