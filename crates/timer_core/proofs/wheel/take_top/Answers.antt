use Rattle.std.specs.BinaryHeap.{heap_items}
use Rattle.std.proofs.Common.{arith}
use Rattle.timer_core.specs.Wheel.{waiting_of}
use Rattle.timer_core.proofs.Spread.{popped_alike}
use Rattle.timer_core.proofs.Taken.{first_later, heap_first, popped_settled, popped_due, popped_least}
use Rattle.timer_core.proofs.wheel.take_top.Goals as goal

pub returns-then-branch-now-clause-due : goal.returns-then-branch-now-clause-due
returns-then-branch-now-clause-due c =
    first_later c.args.now c.in_ok-top_moment.field-0 (waiting_of (heap_items c.args.heap.now) c.args.chains.now)
    (heap_first c.args.base c.in_ok-top_moment.field-0 (heap_items c.args.heap.now) c.args.chains.now c.requires.settled c.in_ok-top_moment.ensures) (omega arith)

pub returns-clause-settled : goal.returns-clause-settled
returns-clause-settled c =
    popped_settled c.args.base (heap_items c.args.heap.now) (heap_items c.pop.new.self) c.args.chains.now c.in_ok-entry.field-0 c.requires.settled c.in_ok-entry.ensures.permutation
    (c.in_ok-entry.ensures.heap_order c.requires.settled.ordered).0

pub returns-clause-due : goal.returns-clause-due
returns-clause-due c = (
  popped_due c.args.base (heap_items c.args.heap.now) (heap_items c.pop.new.self) c.args.chains.now c.in_ok-entry.field-0 c.requires.settled c.in_ok-entry.ensures.permutation c.args.now
      c.in_ok-top_moment.field-0 (omega arith) c.in_ok-top_moment.ensures (c.in_ok-entry.ensures.heap_order c.requires.settled.ordered).1,
  popped_least c.args.base (heap_items c.args.heap.now) (heap_items c.pop.new.self) c.args.chains.now c.in_ok-entry.field-0 c.requires.settled c.in_ok-entry.ensures.permutation
      (c.in_ok-entry.ensures.below_top c.requires.settled.ordered),
)

pub returns-clause-kept : goal.returns-clause-kept
returns-clause-kept c = popped_alike (heap_items c.args.heap.now) (heap_items c.pop.new.self) c.args.chains.now c.in_ok-entry.field-0 c.in_ok-entry.ensures.permutation
