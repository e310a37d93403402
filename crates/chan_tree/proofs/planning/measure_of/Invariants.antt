-- The channels so far are measured.
use Rattle.std.proofs.Common.{◌≡◌, ◌-◌, ◌≤◌}
use Rattle.chan_tree.specs.Measures.{measures}
use Rattle.chan_tree.proofs.planning.measure_of.Given as goal

abbrev pub invariant-loop-at : goal.invariant-loop-at
invariant-loop-at g l = record { measured : l.before.items ≡ measures l.chans l.call l.at; within : l.at ≤ l.number }

abbrev pub decreases-loop-at : goal.decreases-loop-at
decreases-loop-at g l = l.number - l.at
