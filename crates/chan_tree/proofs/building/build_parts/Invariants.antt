use Rattle.std.proofs.Common.{◌≡◌, ◌-◌, ◌≤◌}
use Rattle.rpc_model.specs.Plan.{part_plans}
use Rattle.chan_tree.specs.Shown.{append_plans}
use Rattle.chan_tree.proofs.building.build_parts.Given as goal

abbrev pub invariant-loop-at : goal.invariant-loop-at
invariant-loop-at g l =
    record { so_far : append_plans l.kids.items (part_plans l.part l.at (l.part.parts - l.at)) ≡ part_plans l.part 0 l.part.parts; within : l.at ≤ l.part.parts; parts : l.parts ≡ l.part.parts }

abbrev pub decreases-loop-at : goal.decreases-loop-at
decreases-loop-at g l = l.part.parts - l.at
