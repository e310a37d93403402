use Rattle.std.specs.BinaryHeap.{heap_items, IsHeap}
use Rattle.std.specs.List.Sorted.{IsPermutation}
use Rattle.std.proofs.Common.{ℕ, ◌<◌, ◌∷◌, arith, subst, IsOk}
use Rattle.timer_core.specs.Chains.{IsShifted}
use Rattle.timer_core.specs.Wheel.{by_entry}
use Rattle.timer_core.proofs.Spread.{moved_alike, freed_alike, freed_spreading, heap_shorter, from_ok}
use Rattle.timer_core.proofs.wheel.settle.Goals as goal

pub returns-then-entry-base-clause-alike : goal.returns-then-entry-base-clause-alike
returns-then-entry-base-clause-alike c =
    moved_alike (heap_items c.args.heap.now) c.args.chains.now c.shift.new.self c.args.list c.args.base c.args.entry c.requires.used c.requires.list_in c.requires.front c.requires.spreading
    c.if-entry-base.true (subst (λ n. 0 < n) c.home-to.ensures.of c.home-to.ensures.some)
    (subst (λ (n : ℕ). IsShifted c.args.list n c.args.chains.now c.shift.new.self) c.home-to.ensures.of c.shift.ensures)

pub unwrap-requires : goal.unwrap-requires
unwrap-requires c =
    let short =
    heap_shorter (heap_items c.args.heap.now) c.args.chains.now c.args.chains.now c.args.list c.args.base c.args.entry c.requires.used c.requires.list_in c.requires.front c.requires.spreading in
    c.push.ensures.succeeds (omega (arith, short, c.requires.room, c.args.heap.now.data.ok))

pub returns-clause-spreading : goal.returns-clause-spreading
returns-clause-spreading c =
    let short =
    heap_shorter (heap_items c.args.heap.now) c.args.chains.now c.args.chains.now c.args.list c.args.base c.args.entry c.requires.used c.requires.list_in c.requires.front c.requires.spreading in
    let ok : IsOk c.push.result = c.push.ensures.succeeds (omega (arith, short, c.requires.room, c.args.heap.now.data.ok)) in
    let p = from_ok c.push.result (IsPermutation (record { 0 = c.args.entry } ∷ heap_items c.args.heap.now) (heap_items c.push.new.self)) ok c.push.ensures.permutation in
    let o = from_ok c.push.result (IsHeap by_entry (heap_items c.args.heap.now) → IsHeap by_entry (heap_items c.push.new.self)) ok c.push.ensures.heap_order c.requires.spreading.ordered in
    freed_spreading (heap_items c.args.heap.now) c.args.chains.now c.shift-2.new.self c.args.list c.args.base c.args.entry c.requires.used c.requires.list_in c.requires.front
    c.requires.spreading (heap_items c.push.new.self) (omega arith) p o c.shift-2.ensures

pub returns-clause-alike : goal.returns-clause-alike
returns-clause-alike c =
    let short =
    heap_shorter (heap_items c.args.heap.now) c.args.chains.now c.args.chains.now c.args.list c.args.base c.args.entry c.requires.used c.requires.list_in c.requires.front c.requires.spreading in
    let ok : IsOk c.push.result = c.push.ensures.succeeds (omega (arith, short, c.requires.room, c.args.heap.now.data.ok)) in
    let p = from_ok c.push.result (IsPermutation (record { 0 = c.args.entry } ∷ heap_items c.args.heap.now) (heap_items c.push.new.self)) ok c.push.ensures.permutation in
    freed_alike (heap_items c.args.heap.now) c.args.chains.now c.shift-2.new.self c.args.list c.args.base c.args.entry c.requires.used c.requires.list_in c.requires.front
    c.requires.spreading (heap_items c.push.new.self) p c.shift-2.ensures
