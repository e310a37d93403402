use Rattle.std.specs.BinaryHeap.{heap_items}
use Rattle.std.proofs.Common.{◌<◌, length, arith, refl}
use Rattle.timer_core.proofs.Taken.{top_first}
use Rattle.timer_core.proofs.wheel.top_moment.Goals as goal

pub returns : goal.returns
returns c =
    let l : 0 < length (heap_items c.args.heap.now) = omega (arith, c.in_ok-entry.ensures.variant.0 refl, c.args.heap.now.data.ok) in
    top_first c.in_ok-entry.field-0.now (heap_items c.args.heap.now) l c.in_ok-entry.ensures.lookup (c.in_ok-entry.ensures.greatest c.requires)
