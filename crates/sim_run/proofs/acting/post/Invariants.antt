-- The requests that are out of the list went out; those left stand last first.
use Rattle.std.proofs.Common.{◌≡◌, length, reverse}
use Rattle.sim_run.specs.Sends.{posted}
use Rattle.sim_run.proofs.acting.post.Given as goal

abbrev pub decreases-requests : goal.decreases-requests
decreases-requests l = length l.sends.items

abbrev pub invariant-requests : goal.invariant-requests
invariant-requests l = posted l.first l.plan l.call (reverse l.sends.items) l.wires.items ≡ posted l.first l.plan l.call l.fn.sends.items l.fn.wires.items
