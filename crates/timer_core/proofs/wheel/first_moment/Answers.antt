use Rattle.std.specs.BinaryHeap.{heap_items}
use Rattle.std.proofs.Common.{ℕ, subst, sym}
use Rattle.timer_core.specs.Wheel.{waiting_of, IsFirstMoment}
use Rattle.timer_core.proofs.Firsts.{lists_first, none_waits}
use Rattle.timer_core.proofs.Taken.{heap_first}
use Rattle.timer_core.proofs.wheel.first_moment.Goals as goal

pub returns-in-Some : goal.returns-in-Some
returns-in-Some c = heap_first c.args.base c.in-Some.moment (heap_items c.args.heap.now) c.args.chains.now c.requires c.in-Some.ensures

pub returns-in_default-first_list : goal.returns-in_default-first_list
returns-in_default-first_list c = none_waits 0 (heap_items c.args.heap.now) c.args.chains.now c.in_default.ensures c.in_default-first_list.ensures

pub returns : goal.returns
returns c =
    subst (λ (m : ℕ). IsFirstMoment (waiting_of (heap_items c.args.heap.now) c.args.chains.now) m) (sym c.least.ensures)
    (lists_first c.args.base (heap_items c.args.heap.now) c.args.chains.now c.requires c.in-Some-first_list.list c.in-Some-first_list.ensures c.in_default.ensures)
