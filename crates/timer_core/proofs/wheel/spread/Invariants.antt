use Rattle.std.proofs.Common.{◌<◌, ◌≤◌, length}
use Rattle.std.specs.BinaryHeap.{heap_items, heap_capacity}
use Rattle.timer_core.specs.Chains.{list_at}
use Rattle.timer_core.specs.Wheel.{IsSpreading, AreAlike, waiting_of}
use Rattle.timer_core.proofs.wheel.spread.Given as goal

-- The entries are those that there were, and those that are left in the list may go where they stand.
abbrev pub invariant-loop-entry : goal.invariant-loop-entry
invariant-loop-entry l =
    IsSpreading l.base l.list (heap_items l.heap) l.chains
    × AreAlike (waiting_of (heap_items l.initial.heap) l.initial.chains) (waiting_of (heap_items l.heap) l.chains)
    × (l.list < length l.chains)
    × (length (waiting_of (heap_items l.heap) l.chains) ≤ heap_capacity l.heap)
    × (heap_capacity l.initial.heap ≤ heap_capacity l.heap)

abbrev pub decreases-loop-entry : goal.decreases-loop-entry
decreases-loop-entry l = length (list_at l.chains l.list)
