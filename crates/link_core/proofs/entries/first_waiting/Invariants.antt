use Rattle.std.proofs.Common.{◌-◌, length}
use Rattle.link_core.specs.Kept.{AreGone}
use Rattle.link_core.proofs.entries.first_waiting.Given as goal

abbrev pub invariant-loop-at : goal.invariant-loop-at
invariant-loop-at l = AreGone l.at l.fn.entries.entries

abbrev pub decreases-loop-at : goal.decreases-loop-at
decreases-loop-at l = length l.fn.entries.entries - l.at
