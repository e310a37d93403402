use Rattle.std.proofs.Common.{◌≡◌, ◌-◌, ◌≤◌}
use Rattle.rpc_model.specs.Faults.{missing_from}
use Rattle.chan_tree.proofs.measuring.missing_part.Given as goal

abbrev pub invariant-loop-part : goal.invariant-loop-part
invariant-loop-part g l = record { so_far : missing_from l.chan l.part (l.chan.parts - l.part) ≡ missing_from l.chan 0 l.chan.parts; within : l.part ≤ l.chan.parts }

abbrev pub decreases-loop-part : goal.decreases-loop-part
decreases-loop-part g l = l.chan.parts - l.part
