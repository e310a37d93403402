use Rattle.std.specs.BinaryHeap.{heap_items}
use Rattle.std.proofs.Common.{arith}
use Rattle.timer_core.specs.Wheel.{waiting_of}
use Rattle.timer_core.proofs.Alike.{length_alike}
use Rattle.timer_core.proofs.Spread.{alike_then}
use Rattle.timer_core.proofs.wheel.spread.Goals as goal

pub loop-entry-preserved : goal.loop-entry-preserved
loop-entry-preserved c =
    let inv = c.loop-entry.invariant in
    let a =
    alike_then (waiting_of (heap_items c.args.heap.now) c.args.chains.now) (waiting_of (heap_items c.loop-entry.heap) c.loop-entry.chains)
    (waiting_of (heap_items c.settle.new.heap) c.settle.new.chains) c.loop-entry.invariant.1 c.settle.ensures.alike in
    let long = length_alike (waiting_of (heap_items c.loop-entry.heap) c.loop-entry.chains) (waiting_of (heap_items c.settle.new.heap) c.settle.new.chains) c.settle.ensures.alike in (
      c.settle.ensures.spreading,
      a,
      omega (arith, c.settle.ensures.count, c.loop-entry.invariant.2),
      omega (arith, long, c.loop-entry.invariant.3, c.settle.ensures.room),
      omega
          (arith, c.loop-entry.invariant.4, c.settle.ensures.room),
    )
