-- No plan stands at one more place.
use Rattle.sim_run.proofs.Coming.{none-pushed}
use Rattle.sim_run.proofs.planning.nothing_kept.Goals as goal

pub loop-place-preserved : goal.loop-place-preserved
loop-place-preserved c = record { none = rw c.in_ok-push.ensures.items (none-pushed c.loop-place.kept.items c.loop-place.invariant.none) }
