-- So many wires were opened so far.
use Rattle.std.proofs.Common.{◌≡◌}
use Rattle.sim_run.specs.Wires.{idle_wires}
use Rattle.sim_run.proofs.wires.open_wires.Given as goal

abbrev pub invariant-loop-server : goal.invariant-loop-server
invariant-loop-server l = l.wires.items ≡ idle_wires l._server
