use Rattle.std.proofs.Common.{◌≡◌, ◌++◌}
use Rattle.rpc_model.specs.Plan.{copies}
use Rattle.chan_tree.proofs.building.copied.Given as goal

abbrev pub invariant-loop-left : goal.invariant-loop-left
invariant-loop-left g l = record { so_far : l.xs.items ++ copies l.left l.x ≡ copies l.count l.x }

abbrev pub decreases-loop-left : goal.decreases-loop-left
decreases-loop-left g l = l.left
