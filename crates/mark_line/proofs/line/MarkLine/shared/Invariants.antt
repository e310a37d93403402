use Rattle.std.proofs.Common.{◌≡◌, ◌≤◌, ◌+◌, ◌-◌, [], length, All}
use Rattle.crossbeam_queue.specs.SegTies.{IsSegPassOf}
use Rattle.mark_line.specs.Log.{log}
use Rattle.mark_line.specs.Line.{IsNewPass}
use Rattle.mark_line.proofs.line.MarkLine.shared.Given as goal

-- Each pass that was given away is in the list, and the seat holds the others.
abbrev pub invariant-loop-left : goal.invariant-loop-left
invariant-loop-left l =
    IsSegPassOf l.self.queue l.seat
    × (l.seat.me.view.client ≡ log [] [] (l.self.passes + 1 - l._left) l.self.passes)
    × (length l.list.items + 1 ≡ l._left)
    × All (IsNewPass l.self) l.list.items
