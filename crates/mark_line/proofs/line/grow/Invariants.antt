use Rattle.std.proofs.Common.{◌≡◌, ◌≤◌, []}
use Rattle.crossbeam_queue.specs.SegTies.{IsSegPassOf}
use Rattle.mark_line.specs.Log.{log}
use Rattle.mark_line.proofs.line.grow.Given as goal

-- The seat holds as many passes as there are so far.
abbrev pub invariant-loop-count : goal.invariant-loop-count
invariant-loop-count l = IsSegPassOf l.queue l.seat × (l.seat.me.view.client ≡ log [] [] l._count l._count)
